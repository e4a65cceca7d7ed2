use Rattle.tables.proofs.Filed.{layout_exist, layout_ordered, layout_room}
use Rattle.drawings.proofs.file.File.open.Goals as goal

pub invariant_of-result : goal.invariant_of-result
invariant_of-result g c =
    let y = c.requires in
    record { few = y.few_states; most = y.few_events; room = layout_room _ _ _ _ y; exist = layout_exist _ _ _ _ y; ordered = layout_ordered _ _ _ _ y }
