use Rattle.zr_session.proofs.memory.OpenPool.act.Goals as goal

pub returns-in_ok-write-in-Write-clause-done : goal.returns-in_ok-write-in-Write-clause-done
returns-in_ok-write-in-Write-clause-done c = let h = rw c.as_slice.ensures at c.in_ok-write-in-Write.ensures in rw c.in-Write.is h

pub returns-in_ok-read-in-Read-clause-done : goal.returns-in_ok-read-in-Read-clause-done
returns-in_ok-read-in-Read-clause-done c = rw c.in-Read.is c.in_ok-read-in-Read.ensures
