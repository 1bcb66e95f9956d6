-- The report, in numbers.
use Rattle.paths.specs.Paths.{report_of}
use Rattle.pgrxsc.proofs.Numbers.{report_told}
use Rattle.pgrxsc.proofs.pgrxsc_path_repeats.Goals as goal

pub returns-clause-exact_report : goal.returns-clause-exact_report
returns-clause-exact_report c = let report = c.path_repeats-report in report_told c.args.bytes.now _ _ (report_of report.result) c.pairs_in.ensures c.report_numbers.ensures report.ensures.exact_report
