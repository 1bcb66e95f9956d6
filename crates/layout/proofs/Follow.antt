-- A machine follows a source: it takes the leaves of a layout that are read from the source, or stops where they are refused.
use Prim.Native.Nat.{ℕ}
use mathlib.Core.List.{List, [], ◌∷◌, ◌++◌}
use mathlib.Core.Path.{◌≡◌, refl, sym, ap, subst, ◌∙◌}
use Rattle.layout.specs.Layout.{Sort, Leaf, values_of, plain, string, Fault, Verdict, fine, wrong, refusal_of, Layout, nothing, one, text, ◌then◌, case, check}
use Rattle.layout.specs.Reading.{Outcome, ok, refuse, ◌>>=◌, judged, Source, leaves_at}
use Rattle.layout.specs.Machine.{Machine, verdict_on, pass, drive}
use Rattle.layout.proofs.Equations.{after, after_after, at_nothing, at_one, at_text, at_then, at_case, at_check}
use Rattle.layout.proofs.Forms.{Still, pass_still, drive_still}

-- Leaves taken one after the other
abbrev pub push_all : {T : Type 0} → (Leaf → T → T) → List Leaf → T → T
push_all push [] st = st
push_all push (x ∷ ls) st = push_all push ls (push x st)

pub push_all_append : {T : Type 0} (push : Leaf → T → T) (a b : List Leaf) (st : T) → push_all push (a ++ b) st ≡ push_all push b (push_all push a st)
push_all_append push [] b st = refl
push_all_append push (x ∷ a) b st = push_all_append push a b (push x st)

-- The position of a machine's state in the source, whether it continues, how it takes a leaf, and how it stops from st on
pub record Gait (S : Source) (T : Type 0) : Type 1 where
  pub at : T → S.Position
  pub Going : T → Type 0
  pub push : Leaf → T → T
  pub Stops : (st r : T) (number place : ℕ) → Type 0

-- The machine goes from st to r: the leaves were taken and it is positioned after them, or it stopped
pub data Follows {S : Source} {T : Type 0} (G : Gait S T) (st r : T) : Outcome S.Position (List Leaf) → Type 0 where
  moved : {ls : List Leaf} {next : S.Position} → (r ≡ push_all G.push ls st) × (G.at r ≡ next) → Follows G st r (ok ls next)
  stops : {n p : ℕ} → G.Stops st r n p → Follows G st r (refuse n p)

pub moved_of : {S : Source} {T : Type 0} {G : Gait S T} {st r : T} {ls : List Leaf} {next : S.Position} → Follows G st r (ok ls next) → (r ≡ push_all G.push ls st) × (G.at r ≡ next)
moved_of (moved h) = h

pub stops_of : {S : Source} {T : Type 0} {G : Gait S T} {st r : T} {n p : ℕ} → Follows G st r (refuse n p) → G.Stops st r n p
stops_of (stops h) = h

-- What a machine must guarantee
pub record Keeps (S : Source) {T : Type 0} (M : Machine T) (G : Gait S T) : Type 0 where
  pub still : Still M (λ st. G.Going st → ⊥)
  pub going : (x : Leaf) (st : T) → G.Going st → G.Going (G.push x st)
  pub value : (srt : Sort) (n : ℕ) (st : T) → M.value (G.push (plain srt n) st) ≡ n
  pub plainly : (srt : Sort) (st : T) → G.Going st → Follows G st (M.plain_step srt st) (S.take_plain srt (G.at st) >>= λ n end. ok (plain srt n ∷ []) end)
  pub textly : (st : T) → G.Going st → Follows G st (M.text_step st) (S.take_text (G.at st) >>= λ t end. ok (string t ∷ []) end)
  pub verdict : (A : Layout) (j : List ℕ → Verdict) (st : T) → M.verdict A j st ≡ verdict_on j (leaves_at S A (G.at st))
  -- a fault stops the machine, a stopped machine does not continue, and one that stops after a leaf stops from before it too
  pub halts : (f : Fault) (begin st : T) → G.Going st → G.Stops st (M.halt f begin st) (refusal_of f) (S.place (G.at begin))
  pub stopped : {st r : T} {n p : ℕ} → G.Stops st r n p → G.Going r → ⊥
  pub before : (x : Leaf) (st r : T) (n p : ℕ) → G.Stops (G.push x st) r n p → G.Stops st r n p

module _ (S : Source) {T : Type 0} (M : Machine T) (G : Gait S T) (k : Keeps S M G) where
  abbrev Halted : T → Type 0
  Halted st = G.Going st → ⊥

  pub going_all : (ls : List Leaf) (st : T) → G.Going st → G.Going (push_all G.push ls st)
  going_all [] st h = h
  going_all (x ∷ ls) st h = going_all ls (G.push x st) (k.going x st h)

  before_all : (ls : List Leaf) (st r : T) (n p : ℕ) → G.Stops (push_all G.push ls st) r n p → G.Stops st r n p
  before_all [] st r n p h = h
  before_all (x ∷ ls) st r n p h = k.before x st r n p (before_all ls (G.push x st) r n p h)

  -- A sequence
  follows_after : (st st₁ r : T) (ls : List Leaf) (o : Outcome S.Position (List Leaf)) → st₁ ≡ push_all G.push ls st → Follows G st₁ r o → Follows G st r (after ls o)
  follows_after st st₁ r ls o e (moved {ls = ms} {next = next} h) = moved {ls = ls ++ ms} {next = next} (h.0 ∙ ap (push_all G.push ms) e ∙ sym (push_all_append G.push ls ms st), h.1)
  follows_after st st₁ r ls o e (stops {n = n} {p = p} h) = stops (before_all ls st r n p (subst (λ (x : T). G.Stops x r n p) e h))

  follows_same : (st st₁ r : T) (n p : ℕ) → r ≡ st₁ → Follows G st st₁ (refuse n p) → Follows G st r (refuse n p)
  follows_same st st₁ r n p e h = subst (λ (x : T). Follows G st x (refuse n p)) (sym e) h

  follows_then : (st st₁ r : T) (o : Outcome S.Position (List Leaf)) (f : S.Position → Outcome S.Position (List Leaf)) → G.Going st → Follows G st st₁ o
      → (G.Going st₁ → Follows G st₁ r (f (G.at st₁))) → (Halted st₁ → r ≡ st₁) → Follows G st r (o >>= λ ls k₁. after ls (f k₁))
  follows_then st st₁ r o f z (moved {ls = ls} {next = next} h) g i =
      let w : G.Going st₁ = subst G.Going (sym h.0) (going_all ls st z) in
      follows_after st st₁ r ls (f next) h.0 (subst (λ (x : S.Position). Follows G st₁ r (f x)) h.1 (g w))
  follows_then st st₁ r o f z (stops {n = n} {p = p} h) g i = follows_same st st₁ r n p (i (k.stopped h)) (stops h)

  -- A fault after what was read
  follows_wrong : (f : Fault) (begin st st₁ : T) (ls : List Leaf) (next : S.Position) → G.Going st → Follows G st st₁ (ok ls next)
      → Follows G st (M.halt f begin st₁) (refuse (refusal_of f) (S.place (G.at begin)))
  follows_wrong f begin st st₁ ls next z h =
      let (e, q) = moved_of h in
      let w : G.Going st₁ = subst G.Going (sym e) (going_all ls st z) in
      stops (before_all ls st (M.halt f begin st₁) (refusal_of f) (S.place (G.at begin)) (subst (λ (x : T). G.Stops x (M.halt f begin st₁) (refusal_of f) (S.place (G.at begin))) e (k.halts f begin st₁ w)))

  follows_judged : (v : Verdict) (begin st st₁ : T) (o : Outcome S.Position (List Leaf)) (f : S.Position → Outcome S.Position (List Leaf)) (F : T → T) → G.Going st → Follows G st st₁ o
      → ((x : T) → G.Going x → Follows G x (F x) (f (G.at x))) → ((x : T) → Halted x → F x ≡ x)
      → Follows G st (F (pass M v begin st₁)) (o >>= λ ls k₁. judged v (S.place (G.at begin)) (after ls (f k₁)))
  follows_judged fine begin st st₁ o f F z h g i = follows_then st st₁ (F st₁) o f z h (λ w. g st₁ w) (λ w. i st₁ w)
  follows_judged (wrong x) begin st st₁ (ok ls next) f F z h g i =
      let r = follows_wrong x begin st st₁ ls next z h in
      follows_same st (M.halt x begin st₁) _ (refusal_of x) (S.place (G.at begin)) (i (M.halt x begin st₁) (k.stopped (stops_of r))) r
  follows_judged (wrong x) begin st st₁ (refuse a b) f F z h g i =
      let w : Halted st₁ = k.stopped (stops_of h) in
      follows_same st st₁ _ a b (ap F (k.still.halted x begin st₁ w) ∙ i st₁ w) h

  follows_check : (j : List ℕ → Verdict) (begin st st₁ : T) (o : Outcome S.Position (List Leaf)) → G.Going st → Follows G st st₁ o
      → Follows G st (pass M (verdict_on j o) begin st₁) (o >>= λ ls k₁. judged (j (values_of ls)) (S.place (G.at begin)) (ok ls k₁))
  follows_check j begin st st₁ (ok ls next) z h = go (j (values_of ls))
    where
      go : (v : Verdict) → Follows G st (pass M v begin st₁) (judged v (S.place (G.at begin)) (ok ls next))
      go fine = h
      go (wrong x) = follows_wrong x begin st st₁ ls next z h
  follows_check j begin st st₁ (refuse n p) z h = h

  -- A case
  after_judged : (v : Verdict) (p : ℕ) (a : List Leaf) (o : Outcome S.Position (List Leaf)) (f : S.Position → Outcome S.Position (List Leaf))
      → after a (o >>= λ ls k₁. judged v p (after ls (f k₁))) ≡ (o >>= λ ls k₁. judged v p (after (a ++ ls) (f k₁)))
  after_judged fine p a (ok ls next) f = after_after a ls (f next)
  after_judged (wrong x) p a (ok ls next) f = refl
  after_judged v p a (refuse x y) f = refl

  follows_case : (srt : Sort) (st st₁ : T) (g : Outcome S.Position ℕ) (j : ℕ → Verdict) (fA : S.Position → Outcome S.Position (List Leaf)) (fB : ℕ → S.Position → Outcome S.Position (List Leaf)) (A : T → T) (B : ℕ → T → T) → G.Going st
      → Follows G st st₁ (g >>= λ n end. ok (plain srt n ∷ []) end)
      → ((x : T) → G.Going x → Follows G x (A x) (fA (G.at x))) → ((x : T) → Halted x → A x ≡ x)
      → ((b : ℕ) (x : T) → G.Going x → Follows G x (B b x) (fB b (G.at x))) → ((b : ℕ) (x : T) → Halted x → B b x ≡ x)
      → Follows G st (B (M.value st₁) (pass M (j (M.value st₁)) st (A st₁)))
      (g >>= λ b k₁. fA k₁ >>= λ ls k₂. judged (j b) (S.place (G.at st)) (after (plain srt b ∷ ls) (fB b k₂)))
  follows_case srt st st₁ (ok b k₁) j fA fB A B z h lA sA lB sB =
      let (e, p) = moved_of h in
      let v : M.value st₁ ≡ b = ap M.value e ∙ k.value srt b st in
      let w : G.Going st₁ = subst G.Going (sym e) (k.going (plain srt b) st z) in
      let i : Follows G st₁ (B b (pass M (j b) st (A st₁))) (fA k₁ >>= λ ls k₂. judged (j b) (S.place (G.at st)) (after ls (fB b k₂))) =
      follows_judged (j b) st st₁ (A st₁) (fA k₁) (fB b) (B b) w (subst (λ (x : S.Position). Follows G st₁ (A st₁) (fA x)) p (lA st₁ w)) (lB b) (sB b) in
      subst (λ (x : ℕ). Follows G st (B x (pass M (j x) st (A st₁))) (fA k₁ >>= λ ls k₂. judged (j b) (S.place (G.at st)) (after (plain srt b ∷ ls) (fB b k₂)))) (sym v)
      (subst (Follows G st _) (after_judged (j b) (S.place (G.at st)) (plain srt b ∷ []) (fA k₁) (fB b)) (follows_after st st₁ _ (plain srt b ∷ []) _ e i))
  follows_case srt st st₁ (refuse n p) j fA fB A B z h lA sA lB sB =
      let x = M.value st₁ in
      let w : Halted st₁ = k.stopped (stops_of h) in
      follows_same st st₁ _ n p
      (ap (λ (y : T). B x (pass M (j x) st y)) (sA st₁ w) ∙ ap (B x) (pass_still M Halted k.still (j x) st st₁ w) ∙ sB x st₁ w) h

  pub follow : (L : Layout) (st : T) → G.Going st → Follows G st (drive M L st) (leaves_at S L (G.at st))
  unfolding drive
  follow nothing st z = rw (at_nothing S (G.at st)) (moved {ls = []} {next = G.at st} (refl, refl))
  follow (one srt) st z = rw (at_one S srt (G.at st)) (k.plainly srt st z)
  follow text st z = rw (at_text S (G.at st)) (k.textly st z)
  follow (A then B) st z =
      rw (at_then S A B (G.at st))
      (follows_then st (drive M A st) (drive M B (drive M A st)) (leaves_at S A (G.at st)) (leaves_at S B) z (follow A st z)
      (λ w. follow B (drive M A st) w) (λ w. drive_still M Halted k.still B (drive M A st) w))
  follow (case srt A j B) st z =
      rw (at_case S srt A j B (G.at st))
      (follows_case srt st (M.plain_step srt st) (S.take_plain srt (G.at st)) j (leaves_at S A) (λ b. leaves_at S (B b)) (drive M A) (λ b. drive M (B b)) z (k.plainly srt st z)
      (λ x w. follow A x w) (λ x w. drive_still M Halted k.still A x w) (λ b x w. follow (B b) x w) (λ b x w. drive_still M Halted k.still (B b) x w))
  follow (check A j) st z =
      rw (at_check S A j (G.at st), k.verdict A j st)
      (follows_check j st st (drive M A st) (leaves_at S A (G.at st)) z (follow A st z))
