-- How a function for a part of a layout meets `drive`: one law for each form of layout.
use Prim.Native.Nat.{ℕ, zero, suc, ◌+◌, ◌-◌, ◌≤◌, ◌<◌}
use native.Mathlib.Omega.{arith}
use mathlib.Core.List.{List, ◌++◌}
use mathlib.Core.Path.{◌≡◌, refl, sym, ap, ◌∙◌}
use Rattle.layout.specs.Layout.{Layout, Sort, Kind, Tag, Flag, Count, Fault, unknown_kind, unknown_tag, Verdict, fine, wrong, nothing, one, text, ◌then◌, case, check}
use Rattle.layout.specs.Forms.{times, any, list, may, only_if, Tags, tags, tags_after, kinds, known, follows}
use Rattle.layout.specs.Machine.{Machine, pass, drive}
use Rattle.layout.proofs.Tables.{Outside, known_outside, follows_outside, bare, bare_in}

-- States that no step changes
pub record Still {T : Type 0} (M : Machine T) (R : T → Type 0) : Type 0 where
  pub plainly : (srt : Sort) (st : T) → R st → M.plain_step srt st ≡ st
  pub textly : (st : T) → R st → M.text_step st ≡ st
  pub halted : (f : Fault) (begin st : T) → R st → M.halt f begin st ≡ st

module _ {T : Type 0} where
  pub drive_nothing : (M : Machine T) (st : T) → st ≡ drive M nothing st
  unfolding drive
  drive_nothing M st = refl

  -- A sequence: A, then B
  pub then_in : (A B : Layout) (M : Machine T) (st st₁ r : T) → st₁ ≡ drive M A st → r ≡ drive M B st₁ → r ≡ drive M (A then B) st
  unfolding drive
  then_in A B M st st₁ r e q = q ∙ ap (drive M B) e

  -- A case, from the state after its leaf
  pub case_law : (srt : Sort) (A : Layout) (j : ℕ → Verdict) (B : ℕ → Layout) (M : Machine T) (st st₁ : T) → st₁ ≡ drive M (one srt) st
      → drive M (case srt A j B) st ≡ drive M (B (M.value st₁)) (pass M (j (M.value st₁)) st (drive M A st₁))
  unfolding drive
  case_law srt A j B M st st₁ e = rw e

  -- "May": a flag, then the optional part unless the flag is 0
  pub may_in : (L : Layout) (M : Machine T) (st st₁ r : T) → st₁ ≡ drive M (one Flag) st → (M.value st₁ ≡ 0 → ⊥) → r ≡ drive M L st₁ → r ≡ drive M (may L) st
  unfolding drive
  may_in L M st st₁ r e h k = k ∙ sym (case_law Flag nothing any (only_if L) M st st₁ e ∙ go (M.value st₁) h)
    where
      go : (v : ℕ) → (v ≡ 0 → ⊥) → drive M (only_if L v) st₁ ≡ drive M L st₁
      go zero h = absurd (h refl)
      go (suc n) h = refl

  pub may_out : (L : Layout) (M : Machine T) (st st₁ : T) → st₁ ≡ drive M (one Flag) st → M.value st₁ ≡ 0 → st₁ ≡ drive M (may L) st
  unfolding drive
  may_out L M st st₁ e h = sym (case_law Flag nothing any (only_if L) M st st₁ e ∙ ap (λ (v : ℕ). drive M (only_if L v) st₁) h)

  -- A known tag b, then what follows it. `refl` proves that a numeral is known
  case_in : (srt : Sort) (j : ℕ → Verdict) (B : ℕ → Layout) (b : ℕ) (M : Machine T) (st st₁ r : T)
      → st₁ ≡ drive M (one srt) st → M.value st₁ ≡ b → j b ≡ fine → r ≡ drive M (B b) st₁ → r ≡ drive M (case srt nothing j B) st
  unfolding drive
  case_in srt j B b M st st₁ r e h k q = q ∙ sym (rw (← e, h, k))

  -- An unknown tag
  case_wrong : (srt : Sort) (j : ℕ → Verdict) (B : ℕ → Layout) (f : Fault) (M : Machine T) (st st₁ r : T)
      → st₁ ≡ drive M (one srt) st → j (M.value st₁) ≡ wrong f → B (M.value st₁) ≡ nothing → r ≡ M.halt f st st₁ → r ≡ drive M (case srt nothing j B) st
  unfolding drive
  case_wrong srt j B f M st st₁ r e k g q = q ∙ sym (rw (← e, k, g))

  pub tags_in : (rows : Tags) (b : ℕ) (M : Machine T) (st st₁ r : T)
      → st₁ ≡ drive M (one Tag) st → M.value st₁ ≡ b → known unknown_tag rows b ≡ fine → r ≡ drive M (follows rows b) st₁ → r ≡ drive M (tags rows) st
  tags_in rows b M st st₁ r e h k q = case_in Tag (known unknown_tag rows) (follows rows) b M st st₁ r e h k q

  pub tags_wrong : (rows : Tags) (M : Machine T) (st st₁ r : T)
      → st₁ ≡ drive M (one Tag) st → Outside rows (M.value st₁) → r ≡ M.halt unknown_tag st st₁ → r ≡ drive M (tags rows) st
  tags_wrong rows M st st₁ r e h q = case_wrong Tag (known unknown_tag rows) (follows rows) unknown_tag M st st₁ r e (known_outside unknown_tag rows _ h) (follows_outside rows _ h) q

  pub tags_bare : (a n : ℕ) (rows : Tags) (M : Machine T) (st st₁ : T)
      → st₁ ≡ drive M (one Tag) st → a ≤ M.value st₁ → M.value st₁ < a + n → st₁ ≡ drive M (tags (bare a n ++ rows)) st
  unfolding drive
  tags_bare a n rows M st st₁ e h k =
      let (p, q) = bare_in unknown_tag a n rows (M.value st₁) h k in
      case_in Tag (known unknown_tag (bare a n ++ rows)) (follows (bare a n ++ rows)) (M.value st₁) M st st₁ st₁ e refl p (sym (ap (λ (L : Layout). drive M L st₁) q))

  pub kinds_in : (rows : Tags) (b : ℕ) (M : Machine T) (st st₁ r : T)
      → st₁ ≡ drive M (one Kind) st → M.value st₁ ≡ b → known unknown_kind rows b ≡ fine → r ≡ drive M (follows rows b) st₁ → r ≡ drive M (kinds rows) st
  kinds_in rows b M st st₁ r e h k q = case_in Kind (known unknown_kind rows) (follows rows) b M st st₁ r e h k q

  pub kinds_wrong : (rows : Tags) (M : Machine T) (st st₁ r : T)
      → st₁ ≡ drive M (one Kind) st → Outside rows (M.value st₁) → r ≡ M.halt unknown_kind st st₁ → r ≡ drive M (kinds rows) st
  kinds_wrong rows M st st₁ r e h q = case_wrong Kind (known unknown_kind rows) (follows rows) unknown_kind M st st₁ r e (known_outside unknown_kind rows _ h) (follows_outside rows _ h) q

  -- A tag that is judged only after A
  pub after_in : (A : Layout) (rows : Tags) (b : ℕ) (M : Machine T) (st st₁ st₂ r : T)
      → st₁ ≡ drive M (one Tag) st → st₂ ≡ drive M A st₁ → M.value st₁ ≡ b → known unknown_tag rows b ≡ fine → r ≡ drive M (follows rows b) st₂ → r ≡ drive M (tags_after A rows) st
  after_in A rows b M st st₁ st₂ r e f h k q = q ∙ sym (case_law Tag A (known unknown_tag rows) (follows rows) M st st₁ e ∙ rw (← f, h, k))

  pub after_wrong : (A : Layout) (rows : Tags) (M : Machine T) (st st₁ st₂ r : T)
      → st₁ ≡ drive M (one Tag) st → st₂ ≡ drive M A st₁ → Outside rows (M.value st₁) → r ≡ M.halt unknown_tag st st₂ → r ≡ drive M (tags_after A rows) st
  after_wrong A rows M st st₁ st₂ r e f h q =
      q ∙ drive_nothing M _ ∙ sym (case_law Tag A (known unknown_tag rows) (follows rows) M st st₁ e ∙ rw (← f, known_outside unknown_tag rows _ h, follows_outside rows _ h))

  -- A list: a count, then that many items
  pub list_in : (L : Layout) (M : Machine T) (st st₁ r : T) → st₁ ≡ drive M (one Count) st → r ≡ drive M (times (M.value st₁) L) st₁ → r ≡ drive M (list L) st
  unfolding drive
  list_in L M st st₁ r e q = q ∙ sym (case_law Count nothing any (λ n. times n L) M st st₁ e)

  times_step : (n i : ℕ) (L : Layout) (M : Machine T) (st : T) → i < n → drive M (times (n - i) L) st ≡ drive M (times (n - (i + 1)) L) (drive M L st)
  unfolding drive
  times_step n i L M st h =
      let e : n - i ≡ suc (n - (i + 1)) = omega arith in
      ap (λ (k : ℕ). drive M (times k L) st) e

  times_done : (n i : ℕ) (L : Layout) (M : Machine T) (st : T) → n ≤ i → drive M (times (n - i) L) st ≡ st
  unfolding drive
  times_done n i L M st h =
      let e : n - i ≡ 0 = omega arith in
      ap (λ (k : ℕ). drive M (times k L) st) e

  -- A loop over n items whose result is w: one iteration, and the end
  pub loop_on : (n i : ℕ) (L : Layout) (M : Machine T) (w st r : T) → w ≡ drive M (times (n - i) L) st → i < n → r ≡ drive M L st → w ≡ drive M (times (n - (i + 1)) L) r
  loop_on n i L M w st r e h q = e ∙ times_step n i L M st h ∙ ap (drive M (times (n - (i + 1)) L)) (sym q)

  pub loop_end : (n i : ℕ) (L : Layout) (M : Machine T) (w st : T) → w ≡ drive M (times (n - i) L) st → n ≤ i → st ≡ w
  loop_end n i L M w st e h = sym (e ∙ times_done n i L M st h)

  -- A part that is judged after it was read
  pub check_law : (A : Layout) (j : List ℕ → Verdict) (M : Machine T) (st st₁ r : T) → st₁ ≡ drive M A st → r ≡ pass M (M.verdict A j st) st st₁ → r ≡ drive M (check A j) st
  unfolding drive
  check_law A j M st st₁ r e q = q ∙ ap (pass M (M.verdict A j st) st) e

-- What no step changes
pub record Kept {T A : Type 0} (M : Machine T) (f : T → A) : Type 0 where
  pub plainly : (srt : Sort) (st : T) → f (M.plain_step srt st) ≡ f st
  pub textly : (st : T) → f (M.text_step st) ≡ f st
  pub halted : (x : Fault) (begin st : T) → f (M.halt x begin st) ≡ f st

module _ {T A : Type 0} (M : Machine T) (f : T → A) (k : Kept M f) where
  pass_kept : (v : Verdict) (begin st : T) → f (pass M v begin st) ≡ f st
  pass_kept fine begin st = refl
  pass_kept (wrong x) begin st = k.halted x begin st

  pub drive_kept : (L : Layout) (st : T) → f (drive M L st) ≡ f st
  unfolding drive
  drive_kept nothing st = refl
  drive_kept (one srt) st = k.plainly srt st
  drive_kept text st = k.textly st
  drive_kept (A then B) st = drive_kept B (drive M A st) ∙ drive_kept A st
  drive_kept (case srt A j B) st =
      let st₁ = M.plain_step srt st in
      let n = M.value st₁ in
      drive_kept (B n) (pass M (j n) st (drive M A st₁)) ∙ pass_kept (j n) st (drive M A st₁) ∙ drive_kept A st₁ ∙ k.plainly srt st
  drive_kept (check A j) st = pass_kept (M.verdict A j st) st (drive M A st) ∙ drive_kept A st

module _ {T : Type 0} (M : Machine T) (R : T → Type 0) (k : Still M R) where
  pub pass_still : (v : Verdict) (begin st : T) → R st → pass M v begin st ≡ st
  pass_still fine begin st h = refl
  pass_still (wrong f) begin st h = k.halted f begin st h

  -- A state that no step changes stays the same
  pub drive_still : (L : Layout) (st : T) → R st → drive M L st ≡ st
  unfolding drive
  drive_still nothing st h = refl
  drive_still (one srt) st h = k.plainly srt st h
  drive_still text st h = k.textly st h
  drive_still (A then B) st h = rw (drive_still A st h) (drive_still B st h)
  drive_still (case srt A j B) st h =
      rw (k.plainly srt st h, drive_still A st h, pass_still (j (M.value st)) st st h) (drive_still (B (M.value st)) st h)
  drive_still (check A j) st h = rw (drive_still A st h) (pass_still (M.verdict A j st) st st h)

  -- So a loop whose result is w may end early, at such a state
  pub loop_still : (L : Layout) (w st : T) → w ≡ drive M L st → R st → st ≡ w
  loop_still L w st e h = sym (e ∙ drive_still L st h)
