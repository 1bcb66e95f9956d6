-- The order of kinds with a text each.
use Prim.Native.Nat.{ℕ}
use mathlib.Core.Bool.{false}
use mathlib.Core.List.{List, [], ◌∷◌}
use mathlib.Core.Path.{◌≡◌, refl, sym, ap, ◌∙◌}
use Rattle.std.specs.declared.cmp.Ordering.TheVariants.{Less, Equal}
use Rattle.std.specs.FinMap.{nat_cmp-IsAntisymmetric, slice_cmp-IsAntisymmetric}
use Rattle.std.proofs.lemmas.Cmp.{nat_list_cmp_total, tied_itself}
use Rattle.raw_bytes.specs.Bytes.{same}
use Rattle.layout.proofs.BadReads.{not_true}
use Rattle.raw_bytes.proofs.Compared.{same_sound}
use Rattle.runs.specs.Private.{ranked, kind_order}

ranked_equal : (t u : List ℕ) → ranked t ≡ ranked u → t ≡ u
ranked_equal [] [] e = refl
ranked_equal [] (l ∷ u) e = absurd (cc)
ranked_equal (k ∷ t) [] e = absurd (cc)
ranked_equal (k ∷ t) (l ∷ u) e = cc

pub order_equal : (t u : List ℕ) → kind_order t u ≡ Equal → t ≡ u
unfolding kind_order
order_equal t u e = ranked_equal t u (slice_cmp-IsAntisymmetric nat_cmp-IsAntisymmetric (ranked t) (ranked u) e)

pub order_trans : (t u v : List ℕ) → kind_order t u ≡ Less → kind_order u v ≡ Less → kind_order t v ≡ Less
unfolding kind_order
order_trans t u v e f = nat_list_cmp_total.trans (ranked t) (ranked u) (ranked v) e f

order_refl : (t : List ℕ) → kind_order t t ≡ Equal
unfolding kind_order
order_refl t = tied_itself nat_list_cmp_total (ranked t)

pub order_differ : (t u : List ℕ) → kind_order t u ≡ Less → same t u ≡ false
order_differ t u e = not_true _ λ q.
    let p : kind_order t t ≡ kind_order t u = ap (kind_order t) (same_sound t u q) in
    let z : Less ≡ Equal = sym e ∙ sym p ∙ order_refl t in
    absurd (cc)
