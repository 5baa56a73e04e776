use Rattle.axp_bank.proofs.HeldCopyLemmas.{put_no_room, room_of_held, room_of_few, no_room_full}
use Rattle.axp_ibank.proofs.CodeLemmas.{bytes_put, stamp_put, bytes_put_other, stamp_put_other}
use Rattle.axp_ibank.proofs.laws.code_put_is_got.Goals as goal

pub returns-clause-bytes : goal.returns-clause-bytes
returns-clause-bytes c = bytes_put

pub returns-clause-stamp : goal.returns-clause-stamp
returns-clause-stamp c = stamp_put

pub returns-clause-other_bytes : goal.returns-clause-other_bytes
returns-clause-other_bytes c = bytes_put_other

pub returns-clause-other_stamps : goal.returns-clause-other_stamps
returns-clause-other_stamps c = stamp_put_other

pub returns-clause-full : goal.returns-clause-full
returns-clause-full c = put_no_room

pub returns-clause-no_room : goal.returns-clause-no_room
returns-clause-no_room c = no_room_full

pub returns-clause-held_has_room : goal.returns-clause-held_has_room
returns-clause-held_has_room c = room_of_held

pub returns-clause-few_have_room : goal.returns-clause-few_have_room
returns-clause-few_have_room c = room_of_few
