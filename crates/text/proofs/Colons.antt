-- The pairs of colons, one byte and two bytes further.
use Rattle.std.proofs.Common.{◌≡◌, ℕ, ◌+◌, ◌<◌, Bool, true, false, eqb, List, [], ◌∷◌, length, get_or, take, sym, refl, ap, ◌∙◌, arith, eq-eqb, ne_eqb, eqb-true}
use mathlib.Core.List.{foldl-append}
use lib.Seq.{take-length}
use borrow.Author.Tests.{eqb-false}
use Rattle.text.specs.Colons.{Colons, colon_step, colons_after, unwalked}
use Rattle.text.specs.Private.{Closed}
use Rattle.text.specs.Theorems.{ColonsAppend}
use Rattle.text.proofs.Codes.{fold_snoc}

pub colons_append : ColonsAppend
colons_append p l m = foldl-append colon_step p l m

-- One byte: what is not a colon, a first colon, and a second one
module _ (p : Colons) (b : ℕ) where
  pub other : (b ≡ 0x3A → ⊥) → colon_step p b ≡ record { opened = false; end = p.end; seen = p.seen + 1 }
  unfolding colon_step
  other n = rw (ne_eqb b 0x3A n)

  pub first : b ≡ 0x3A → p.opened ≡ false → colon_step p b ≡ record { opened = true; end = p.end; seen = p.seen + 1 }
  unfolding colon_step
  first e f = rw (eq-eqb b 0x3A e, f)

  pub second : b ≡ 0x3A → p.opened ≡ true → colon_step p b ≡ record { opened = false; end = p.seen + 1; seen = p.seen + 1 }
  unfolding colon_step
  second e f = rw (eq-eqb b 0x3A e, f)

module _ (s : List ℕ) (opened : Bool) where
  one_more_lem : (i : ℕ) → i < length s → colons_after (unwalked opened) (take (i + 1) s) ≡ colon_step (colons_after (unwalked opened) (take i s)) (get_or s i 0)
  one_more_lem i h = fold_snoc colon_step (unwalked opened) s i h

  module _ (i e : ℕ) (z : Closed s opened i e) where
    pub closed_other : i < length s → (get_or s i 0 ≡ 0x3A → ⊥) → Closed s opened (i + 1) e
    closed_other h n = one_more_lem i h ∙ ap (λ (p : Colons). colon_step p (get_or s i 0)) z ∙ other (record { opened = false; end = e; seen = i }) (get_or s i 0) n

    -- A colon that no pair was open for
    opened_at : i < length s → get_or s i 0 ≡ 0x3A → colons_after (unwalked opened) (take (i + 1) s) ≡ record { opened = true; end = e; seen = i + 1 }
    opened_at h q = one_more_lem i h ∙ ap (λ (p : Colons). colon_step p (get_or s i 0)) z ∙ first (record { opened = false; end = e; seen = i }) (get_or s i 0) q refl

    pub closed_pair : i + 1 < length s → get_or s i 0 ≡ 0x3A → get_or s (i + 1) 0 ≡ 0x3A → Closed s opened (i + 1 + 1) (i + 1 + 1)
    closed_pair h q r =
        one_more_lem (i + 1) h
        ∙ ap (λ (p : Colons). colon_step p (get_or s (i + 1) 0)) (opened_at (omega arith) q)
        ∙ second (record { opened = true; end = e; seen = i + 1 }) (get_or s (i + 1) 0) r refl

    -- Where the second byte is not a colon, no pair is open after it, whatever the first one is
    pub closed_two : i + 1 < length s → (get_or s (i + 1) 0 ≡ 0x3A → ⊥) → Closed s opened (i + 1 + 1) e
    closed_two h n = go (eqb (get_or s i 0) 0x3A) refl
      where
        from : (b : Bool) → colons_after (unwalked opened) (take (i + 1) s) ≡ record { opened = b; end = e; seen = i + 1 } → Closed s opened (i + 1 + 1) e
        from b q =
            one_more_lem (i + 1) h
            ∙ ap (λ (p : Colons). colon_step p (get_or s (i + 1) 0)) q
            ∙ other (record { opened = b; end = e; seen = i + 1 }) (get_or s (i + 1) 0) n

        go : (t : Bool) → eqb (get_or s i 0) 0x3A ≡ t → Closed s opened (i + 1 + 1) e
        go true t = from true (opened_at (omega arith) (eqb-true _ _ t))
        go false t = from false (closed_other (omega arith) (eqb-false _ _ t))

    -- The end of the bytes, after a closed pair or any other byte, and after a colon
    pub closed_end : i ≡ length s → colons_after (unwalked opened) s ≡ record { opened = false; end = e; seen = length s }
    closed_end q = rw (q, take-length s) at z

    pub last_byte : i + 1 ≡ length s → colons_after (unwalked opened) s ≡ record { opened = eqb (get_or s i 0) 0x3A; end = e; seen = length s }
    last_byte q = go (eqb (get_or s i 0) 0x3A) refl
      where
        go : (t : Bool) → eqb (get_or s i 0) 0x3A ≡ t → colons_after (unwalked opened) s ≡ record { opened = t; end = e; seen = length s }
        go true t = rw (q, take-length s) at (opened_at (omega arith) (eqb-true _ _ t))
        go false t = rw (q, take-length s) at (closed_other (omega arith) (eqb-false _ _ t))

-- A first byte, with a pair open: it closes the pair, or it makes no difference that one is open
pub first_closes : (s : List ℕ) → 0 < length s → get_or s 0 0 ≡ 0x3A → Closed s true 1 1
first_closes s h q = one_more_lem s true 0 h ∙ second (unwalked true) (get_or s 0 0) q refl

pub first_other : (s : List ℕ) → 0 < length s → (get_or s 0 0 ≡ 0x3A → ⊥) → colons_after (unwalked true) s ≡ colons_after (unwalked false) s
first_other [] h n = absurd (omega arith)
first_other (x ∷ l) h n = ap (λ (p : Colons). colons_after p l) (other (unwalked true) x n ∙ sym (other (unwalked false) x n))
