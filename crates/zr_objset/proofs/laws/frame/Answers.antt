use Rattle.zr_objset.proofs.Keeping.{same_record, same_block, same_objects, beside}
use Rattle.zr_objset.specs.Records.{all_reach}
use Rattle.zr_objset.proofs.laws.frame.Goals as goal

pub returns-clause-record : goal.returns-clause-record
returns-clause-record c = λ old new dir id same. same_record old new dir id (record { same = same })

pub returns-clause-block : goal.returns-clause-block
returns-clause-block c = λ old new r index same. same_block old new r index (record { same = same })

pub returns-clause-objects : goal.returns-clause-objects
returns-clause-objects c = λ old new dir same. same_objects old new dir (record { same = same })

pub returns-clause-others : goal.returns-clause-others
returns-clause-others c = λ old new out into dir swaps once held. same_objects old new dir (beside old new out into (all_reach old dir) swaps once held)
