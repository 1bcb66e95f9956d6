-- Properties of each leaf of a value.
use mathlib.Core.List.{List, [], ◌∷◌, ◌++◌}
use Rattle.layout.specs.Layout.{Leaf, Layout, nothing, one, text, ◌then◌, case, check, Value, leaves, Meets}

-- G holds of each leaf
abbrev pub Each : (G : Leaf → Type 0) → List Leaf → Type 0
Each G [] = Unit {0}
Each G (x ∷ ls) = G x × Each G ls

module _ (G : Leaf → Type 0) where
  pub each_part : (a b : List Leaf) → Each G (a ++ b) → Each G a × Each G b
  each_part [] b h = (tt, h)
  each_part (x ∷ a) b h = let (k, l) = each_part a b h.1 in ((h.0, k), l)

  pub each_join : (a b : List Leaf) → Each G a → Each G b → Each G (a ++ b)
  each_join [] b h k = k
  each_join (x ∷ a) b h k = (h.0, each_join a b h.1 k)

  pub each_of : (L : Layout) (v : Value L) → Meets G L v → Each G (leaves L v)
  each_of nothing v m = tt
  each_of (one srt) n m = (m, tt)
  each_of text t m = (m, tt)
  each_of (A then B) v m = each_join (leaves A v.0) (leaves B v.1) (each_of A v.0 m.0) (each_of B v.1 m.1)
  each_of (case srt A j B) v m = (m.0, each_join (leaves A v.1) (leaves (B v.0) v.2) (each_of A v.1 m.1) (each_of (B v.0) v.2 m.3))
  each_of (check A j) v m = each_of A v m.0

-- A value that meets its layout for F, and whose leaves all satisfy G, meets it for G
pub meets_each : (F G : Leaf → Type 0) (L : Layout) (v : Value L) → Meets F L v → Each G (leaves L v) → Meets G L v
meets_each F G nothing v m e = tt
meets_each F G (one srt) n m e = e.0
meets_each F G text t m e = e.0
meets_each F G (A then B) v m e =
    let (a, b) = each_part G (leaves A v.0) (leaves B v.1) e in
    (meets_each F G A v.0 m.0 a, meets_each F G B v.1 m.1 b)
meets_each F G (case srt A j B) v m e =
    let (a, b) = each_part G (leaves A v.1) (leaves (B v.0) v.2) e.1 in
    (e.0, meets_each F G A v.1 m.1 a, m.2, meets_each F G (B v.0) v.2 m.3 b)
meets_each F G (check A j) v m e = (meets_each F G A v m.0 e, m.1)
