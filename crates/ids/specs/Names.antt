-- Names of incarnations, actors and grants, as numbers.
use Rattle.std.specs.Prelude.{ℕ, ◌+◌, ◌^◌, ◌&&◌, ◌||◌, Bool, nat_lt, nat_eq, if◌then◌else◌}
use Rattle.std.specs.declared.cmp.Ordering.{Ordering}
use Rattle.std.specs.Ordering.{nat_cmp, on, then_cmp}

-- the word of a worker's start: 1 to 2^63 - 1
abbrev pub is_worker : ℕ → Bool
is_worker word = nat_lt 0 word && nat_lt word (2 ^ 63)

-- an epoch of the clearinghouse: 1 to 2^63 - 1
abbrev pub is_epoch : ℕ → Bool
is_epoch epoch = nat_lt 0 epoch && nat_lt epoch (2 ^ 63)

-- the name of the clearinghouse in an epoch
abbrev pub house_of : ℕ → ℕ
house_of epoch = 2 ^ 63 + epoch

-- a worker, or the clearinghouse in some epoch
abbrev pub is_actor : ℕ → Bool
is_actor word = is_worker word || (nat_lt (2 ^ 63) word && nat_lt word (2 ^ 64))

-- where a packet goes: an actor, or the clearinghouse of any epoch, which is 2^63
abbrev pub is_address : ℕ → Bool
is_address word = nat_lt 0 word && nat_lt word (2 ^ 64)

-- a number that is counted from 1
abbrev pub is_counted : ℕ → Bool
is_counted number = nat_lt 0 number && nat_lt number (2 ^ 64)

-- a grant's name: who minted it, and the count of what it minted
pub record Grant : Type 0 where
  pub minter : ℕ
  pub number : ℕ

-- 1 where a test holds, else 0
abbrev pub one_if : Bool → ℕ
one_if b = if b then 1 else 0

-- whether two grants are the same
abbrev pub same_grant : Grant → Grant → Bool
same_grant g h = nat_eq g.minter h.minter && nat_eq g.number h.number

-- the order of grants: by the minter, then by the number
abbrev pub grant_cmp : Grant → Grant → Ordering
grant_cmp = then_cmp (on (λ g. g.minter) nat_cmp) (on (λ g. g.number) nat_cmp)

-- g stands before h in that order
abbrev pub grant_before : Grant → Grant → Bool
grant_before g h = nat_lt g.minter h.minter || (nat_eq g.minter h.minter && nat_lt g.number h.number)
