-- What a function that reads one value alone answers, from its three calls.
use Prim.Native.Nat.{ℕ}
use mathlib.Core.List.{List}
use mathlib.Core.Path.{◌≡◌, refl, ap, ◌∙◌}
use Rattle.layout.specs.Layout.{Layout}
use Rattle.layout.specs.Machine.{drive}
use Rattle.layout.specs.Answers.{Result}
use Rattle.layout.specs.Theorems.{Bytes}
use Rattle.layout.specs.ReadAlone.{reading_alone}
use Rattle.layout.specs.Alone.{ExactAlone}
use Rattle.pass.specs.Pass.{Runs}
use Rattle.reading.specs.State.{read_state, new_cursor}
use Rattle.reading.specs.Run.{reader, run}
use Rattle.reading.specs.Answered.{answered_alone}
use Rattle.reading.proofs.Answered as reading
use Rattle.leaf.specs.declared.Reader.{Reader}
use Rattle.leaf.specs.Reader.{state_of, reader_meaning}

pub decoded : (L : Layout) (entities : ℕ) (s table : List ℕ) {p q : Reader} {r : Result} → Bytes s → p.s.now ≡ s → state_of p ≡ read_state new_cursor table
    → Runs reader_meaning L p q → r ≡ answered_alone entities q.s.now (state_of q) → (r ≡ reading_alone L entities s table) × ExactAlone L entities s table r
decoded L entities s table {p} {q} {r} u b n h a =
    let e : q.s.now ≡ s = ap (λ x. x.0) h.lent ∙ b in
    reading.decoded L entities s table new_cursor (state_of q) r u refl
    (h.state ∙ ap (λ (x : List ℕ). drive (reader x) L (state_of p)) b ∙ ap (run L s) n)
    (a ∙ ap (λ (x : List ℕ). answered_alone entities x (state_of q)) e)
