use Rattle.axp_bank.proofs.HeldCopyLemmas.{invalidated_older, invalidated_kept, invalidated_absent, invalidated_other, invalidated_told}
use Rattle.axp_bank.proofs.laws.invalidate_removes_an_older_copy.Goals as goal

pub returns-clause-older : goal.returns-clause-older
returns-clause-older c = invalidated_older

pub returns-clause-newer : goal.returns-clause-newer
returns-clause-newer c = invalidated_kept

pub returns-clause-absent : goal.returns-clause-absent
returns-clause-absent c = invalidated_absent

pub returns-clause-others : goal.returns-clause-others
returns-clause-others c = λ n turn cs m. invalidated_other m n turn cs

pub returns-clause-told : goal.returns-clause-told
returns-clause-told c = invalidated_told
