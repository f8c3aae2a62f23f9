use Rattle.zr_held.proofs.Contents.{edit_done, edit_stored}
use Rattle.zr_held.proofs.object_edited.Goals as goal

pub returns-clause-stored : goal.returns-clause-stored
returns-clause-stored c = λ s a objects id r e plan has found row planned. edit_stored s a objects id r e plan has found row planned

pub returns-clause-edited : goal.returns-clause-edited
returns-clause-edited c = λ s n a b objects id r e plan bytes has low found some more row planned dir changed once size each. edit_done s n a b objects id r e plan bytes has low found some more row planned dir changed once size each
