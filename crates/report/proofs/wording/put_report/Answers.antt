-- `report::wording::put_report` meets its contract. Assumes nothing.
use Rattle.report.proofs.Report.{printed_front}
use Rattle.report.proofs.wording.put_report.Goals as goal

pub returns-clause-prefix_len : goal.returns-clause-prefix_len
returns-clause-prefix_len c = printed_front c.put_text.ensures c.requires
