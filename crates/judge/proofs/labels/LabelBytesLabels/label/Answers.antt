use Rattle.std.proofs.Common.{rules}
use Rattle.lassos.proofs.Entries.{get_or_byte_labels, byte_labels_past}
use Rattle.judge.proofs.labels.LabelBytesLabels.label.Goals as goal

pub returns-then-position-bytes : goal.returns-then-position-bytes
returns-then-position-bytes c = search (rules, get_or_byte_labels)

pub returns-else-position-bytes : goal.returns-else-position-bytes
returns-else-position-bytes c = search (rules, byte_labels_past)
