-- Where the kept name is, in numbers.
use Rattle.place.specs.Place.{found_part}
use Rattle.pgrxsc.proofs.Numbers.{kept_told}
use Rattle.pgrxsc.proofs.pgrxsc_kept_name.Goals as goal

pub returns-clause-exact_kept_name : goal.returns-clause-exact_kept_name
returns-clause-exact_kept_name c =
    let a = c.args in
    kept_told a.bytes.now (record { sort = a.sort; offset = a.offset; value = a.value }) _ (found_part c.place_kept_name.result) c.part_numbers.ensures c.place_kept_name.ensures.exact_kept_name
