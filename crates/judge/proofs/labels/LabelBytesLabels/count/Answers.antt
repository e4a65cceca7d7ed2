use Rattle.std.proofs.Common.{rules}
use Rattle.lassos.proofs.Entries.{length_byte_labels}
use Rattle.judge.proofs.labels.LabelBytesLabels.count.Goals as goal

pub returns : goal.returns
returns c = search (rules, length_byte_labels)
