-- Too many bytes, a refusal of the framing, or the reading of the entries.
use native.Mathlib.Omega.{arith}
use mathlib.Core.List.{List}
use mathlib.Core.Path.{◌≡◌, sym, ap, ◌∙◌}
use Rattle.std.proofs.Common.{ℕ, rules}
use Rattle.table.specs.Answers.{result_of}
use Rattle.reading.specs.State.{ReadState}
use Rattle.section.specs.Section.{reading}
use Rattle.section.proofs.Decode.{promised, by_limit, by_framing, by_entries}
use Rattle.section.proofs.decode_entities.Goals as goal

pub returns-then-section-gt-LIMIT : goal.returns-then-section-gt-LIMIT
returns-then-section-gt-LIMIT c =
    let s = c.args.section.now in
    let table = c.args.table.now in
    let e = by_limit s table _ c.if-section-gt-LIMIT.true c.refuse.ensures in
    record { table_after = e; demand3 = promised s table _ (λ i h. omega (arith, c.type_inv.section i)) e }

pub returns-in-Err : goal.returns-in-Err
returns-in-Err c =
    let s = c.args.section.now in
    let table = c.args.table.now in
    let new = c.new-reader in
    let walk = c.read_entries-walk in
    let after = c.refuse-in-Err.new.table in
    let stage = rw (new.ensures.bytes, ap (λ (st : ReadState). st.table) new.ensures.state) at walk.ensures.stage in
    let told : result_of c.refuse-in-Err.result after ≡ reading s table = by_framing s table _ c.if-section-gt-LIMIT.false walk.new.reader.t.now stage.kept _ _ (stage.walked.rest ∙ sym c.in-Err.ensures) c.refuse-in-Err.ensures in
    let name : walk.new.reader.t.ghost_name ≡ new.result.t.ghost_name = ap (λ (x : List ℕ × _). x.1) walk.ensures.lent in
    record {
      table_after = let same : _ ≡ after = search rules in ap (result_of c.refuse-in-Err.result) same ∙ told;
      demand3 = let same : _ ≡ after = search rules in promised s table _ (λ i h. omega (arith, c.type_inv.section i)) (ap (result_of c.refuse-in-Err.result) same ∙ told);
    }

pub returns : goal.returns
returns c =
    let s = c.args.section.now in
    let table = c.args.table.now in
    let new = c.new-reader in
    let walk = c.read_entries-walk in
    let end = c.answer.new.self in
    let stage = rw (new.ensures.bytes, ap (λ (st : ReadState). st.table) new.ensures.state) at walk.ensures.stage in
    let told : result_of c.answer.result end.t.now ≡ reading s table = by_entries s table _ c.if-section-gt-LIMIT.false _ _ (stage.reads _ (stage.walked.rest ∙ sym c.in_default.ensures)) c.answer.ensures.answer in
    let name : end.t.ghost_name ≡ new.result.t.ghost_name = ap (λ (x : List ℕ × _). x.1) (c.answer.ensures.lent ∙ walk.ensures.lent) in
    record {
      table_after = let same : _ ≡ end.t.now = search rules in ap (result_of c.answer.result) same ∙ told;
      demand3 = let same : _ ≡ end.t.now = search rules in promised s table _ (λ i h. omega (arith, c.type_inv.section i)) (ap (result_of c.answer.result) same ∙ told);
    }
