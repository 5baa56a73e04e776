use Rattle.axp_bank.proofs.HeldCopyLemmas.{get_put, get_put_other, put_no_room, room_of_held, room_of_few, no_room_full}
use Rattle.axp_bank.proofs.laws.put_is_got.Goals as goal

pub returns-clause-line : goal.returns-clause-line
returns-clause-line c = get_put

pub returns-clause-others : goal.returns-clause-others
returns-clause-others c = λ k cs n. get_put_other n k cs

pub returns-clause-full : goal.returns-clause-full
returns-clause-full c = put_no_room

pub returns-clause-held_has_room : goal.returns-clause-held_has_room
returns-clause-held_has_room c = room_of_held

pub returns-clause-few_have_room : goal.returns-clause-few_have_room
returns-clause-few_have_room c = room_of_few

pub returns-clause-no_room : goal.returns-clause-no_room
returns-clause-no_room c = no_room_full
