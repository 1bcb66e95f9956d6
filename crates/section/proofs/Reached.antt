-- The walk over a section's entries, as the code makes it.
use Prim.Native.Nat.{ℕ, ◌+◌, ◌≤◌, ◌<◌}
use mathlib.Core.List.{List}
use mathlib.Core.Path.{◌≡◌, ap, ◌∙◌}
use lib.ListN.{length}
use Rattle.layout.specs.Answers.{limit}
use Rattle.layout.specs.Theorems.{Bytes}
use Rattle.raw_bytes.specs.Bytes.{number_or0}
use Rattle.framing.specs.Places.{entry_end}
use Rattle.leaf.specs.declared.Reader.{Reader}
use Rattle.leaf.specs.Reader.{lent_of}
use Rattle.section.specs.Entry.{staged, past_entry}
use Rattle.section.proofs.Entries.{Come, Leads, stands_at, entry_whole, entry_inside, entry_fits, leads}

-- From where the reader was p, the walk has reached a boundary, where the entry ends at `end`
pub record Reached (p : Reader) (at end : ℕ) (q : Reader) (entities : ℕ) : Type 0 where
  pub come : Come p.s.now p.t.now at (staged q entities)
  pub ends : end ≡ entry_end p.s.now at
  pub lent : lent_of q ≡ lent_of p

module _ {p : Reader} {at end : ℕ} {q : Reader} {n : ℕ} (h : Reached p at end q n) where
  bytes : q.s.now ≡ p.s.now
  bytes = ap (λ (x : List ℕ × _). x.0) h.lent

  module _ (u : Bytes p.s.now) (small : length p.s.now ≤ limit) (l : at < end) where
    pub place : q.at ≡ at
    place = stands_at p.s.now p.t.now u small at (staged q n) h.come end h.ends

    pub whole : end ≡ at + 4 + number_or0 q.s.now at
    whole = rw bytes (entry_whole p.s.now p.t.now u small at (staged q n) h.come end h.ends l)

    pub inside : end ≤ length q.s.now
    inside = rw bytes (entry_inside p.s.now p.t.now u small at (staged q n) h.come end h.ends l)

    pub fits : q.at + 4 + number_or0 q.s.now q.at ≤ length q.s.now
    fits = rw bytes (entry_fits p.s.now p.t.now u small at (staged q n) h.come end h.ends l)

    pub led : (r : Reader) (m : ℕ) → staged r m ≡ past_entry q.s.now (staged q n) → Leads p.s.now p.t.now end (staged r m)
    led r m e = leads p.s.now p.t.now u small at (staged q n) h.come end h.ends l (staged r m) (e ∙ ap (λ (s : List ℕ). past_entry s (staged q n)) bytes)
