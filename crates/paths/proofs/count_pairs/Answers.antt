-- No room for the marks, or the pairs among them.
use Rattle.paths.proofs.Places.{gathered_counts}
use Rattle.paths.proofs.count_pairs.Goals as goal

pub returns-in-Some : goal.returns-in-Some
returns-in-Some c =
    let marks = c.in-Some.ensures.lookup.0 in
    gathered_counts c.args.s.now c.find_paths-found.new.work c.find_paths-found.result c.find_paths-found.ensures marks.1 _ marks.2 c.equal_pairs.result c.equal_pairs.ensures
