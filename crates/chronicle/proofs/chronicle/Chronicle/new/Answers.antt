use Rattle.std.proofs.Common.{refl}
use Rattle.chronicle.specs.Seats.{chronicle_of}
use Rattle.chronicle.proofs.Seats.{all_blank}
use Rattle.chronicle.proofs.chronicle.Chronicle.new.Goals as goal

-- (the seats are those of the lock)
pub returns-clause-seats : goal.returns-clause-seats
returns-clause-seats g c = all_blank c.in_ok-lock.lock
    (chronicle_of c.in_ok-lock.lock) c.in_ok-lock.bare.items c.in_ok-seats.seats.items refl refl refl refl
    c.in_ok-seats.ensures c.in_ok-lock.ensures.seats.1
