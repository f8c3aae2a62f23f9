use Rattle.zr_reckon.proofs.GroupRoom.{begin_room, block_room, metadata_room, freed_room, drop_room, ended_room}
use Rattle.zr_reckon.proofs.MetaTurns.{none_dropped}
use Rattle.zr_reckon.proofs.groups.a_group_takes_its_blocks_from_the_room.Goals as goal

pub returns-clause-begin : goal.returns-clause-begin
returns-clause-begin c = begin_room

pub returns-clause-none : goal.returns-clause-none
returns-clause-none c = none_dropped

pub returns-clause-block : goal.returns-clause-block
returns-clause-block c = block_room

pub returns-clause-metadata : goal.returns-clause-metadata
returns-clause-metadata c = metadata_room

pub returns-clause-free : goal.returns-clause-free
returns-clause-free c = freed_room

pub returns-clause-drop : goal.returns-clause-drop
returns-clause-drop c = drop_room

pub returns-clause-end : goal.returns-clause-end
returns-clause-end c = ended_room
