-- What is written, and what is refused, in terms of what the rows spell.
use native.Mathlib.Omega.{arith}
use mathlib.Core.Path.{◌≡◌, ap, ◌∙◌}
use lib.ListN.{length}
use Rattle.layout.specs.Answers.{whole_rows}
use Rattle.writing.proofs.Spelled.{spelled_complete}
use Rattle.writing.proofs.Exact.{writes_all, writes_only, refuses_exact}
use Rattle.writing.proofs.Offsets.{written_alike}
use Rattle.section_writer.specs.Form.{section_bytes, section}
use Rattle.section_writer.specs.Writing.{entities_in, spelled_entities, measured_section, write_section}
use Rattle.section_writer.specs.Theorems.{SectionWritten, SectionRefused, EntitiesUnique, SectionOffsetFree}
use Rattle.section_writer.proofs.Spelled.{takes_section}

pub section_written : SectionWritten
unfolding write_section measured_section spelled_entities
section_written rows text size b n =
    let taken = entities_in rows text (whole_rows rows) 0 in
    let k = takes_section rows text in (
      writes_only section rows text taken k size b n,
      λ h. let (vs, w, x, y, fits) = h in
          let e : n ≡ length (section_bytes vs) = y ∙ ap length x in
          let z = writes_all section rows text taken k size vs w (omega arith) in
          cc,
    )

pub section_refused : SectionRefused
unfolding write_section measured_section spelled_entities
section_refused rows text size n p = refuses_exact section rows text _ (takes_section rows text) size n p

pub entities_unique : EntitiesUnique
entities_unique rows text vs us s t =
    let k = takes_section rows text in
    let a = spelled_complete section rows text _ k vs s in
    let b = spelled_complete section rows text _ k us t in
    cc

pub section_offset_free : SectionOffsetFree
unfolding write_section measured_section spelled_entities
section_offset_free rows other text size l h = written_alike section rows other text l h _ _ (takes_section rows text) (takes_section other text) size
