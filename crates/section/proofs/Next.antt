-- One entry from any stage, by the tests that come first.
use Prim.Native.Nat.{ℕ, ◌≤◌, ◌<◌}
use mathlib.Core.List.{List}
use mathlib.Core.Path.{◌≡◌}
use lib.ListN.{length}
use borrow.Author.Tests.{eq-eqb, ne_eqb, lt-ltb, le-ltb, le-leb, lt-leb}
use Rattle.layout.specs.Answers.{limit}
use Rattle.framing.specs.Places.{entry_end}
use Rattle.section.specs.Entry.{Stage, past_entry, read_entry}

module _ (s : List ℕ) (g : Stage) where
  pub entry_refused : (g.state.cursor.refusal ≡ 0 → ⊥) → read_entry s g ≡ g
  unfolding read_entry
  entry_refused h = rw (ne_eqb g.state.cursor.refusal 0 h)

  module _ (z : g.state.cursor.refusal ≡ 0) where
    pub entry_too_long : limit < length s → read_entry s g ≡ g
    unfolding read_entry
    entry_too_long h = rw (eq-eqb _ _ z, lt-leb (length s) limit h)

    module _ (small : length s ≤ limit) where
      pub entry_too_many : limit < g.entities → read_entry s g ≡ g
      unfolding read_entry
      entry_too_many h = rw (eq-eqb _ _ z, le-leb (length s) limit small, lt-leb g.entities limit h)

      module _ (few : g.entities ≤ limit) where
        pub entry_none : entry_end s g.state.cursor.at ≤ g.state.cursor.at → read_entry s g ≡ g
        unfolding read_entry
        entry_none h = rw (eq-eqb _ _ z, le-leb (length s) limit small, le-leb g.entities limit few, le-ltb g.state.cursor.at (entry_end s g.state.cursor.at) h)

        pub entry_some : g.state.cursor.at < entry_end s g.state.cursor.at → read_entry s g ≡ past_entry s g
        unfolding read_entry
        entry_some h = rw (eq-eqb _ _ z, le-leb (length s) limit small, le-leb g.entities limit few, lt-ltb g.state.cursor.at (entry_end s g.state.cursor.at) h)
