-- A thief's one request.
use Rattle.std.specs.Prelude.{◌≡◌, ℕ, ◌+◌, ◌^◌, ◌&&◌, Bool, false, nat_eq, nat_lt, if◌then◌else◌, Option, None, Some, is_some, Result, Ok, Err}
use Rattle.ids.specs.Names.{Grant}
use Rattle.ids.specs.declared.member.Status.{Status}
use Rattle.ids.specs.declared.member.Status.TheVariants.{Live, Dead, Left}
use Rattle.steal_protocol.specs.declared.asker.AskError.{AskError}
use Rattle.steal_protocol.specs.declared.asker.AskError.TheVariants.{Busy, Spent}
use Rattle.steal_protocol.specs.declared.asker.Request.{Request}

-- the request that waits for its answer, and how many were made
pub record AskerOf : Type 0 where
  pub pending : Option Request
  pub asked : ℕ

-- whether the request of that count is pending
abbrev pub is_pending : ℕ → Option Request → Bool
is_pending seq None = false
is_pending seq (Some q) = nat_eq q.seq seq

-- whether a grant answers the pending request: it has its count, and was minted by the victim that
-- was asked
abbrev pub is_answered_by : ℕ → Grant → Option Request → Bool
is_answered_by seq g None = false
is_answered_by seq g (Some q) = nat_eq q.seq seq && nat_eq q.victim g.minter

-- the next request, to a victim
abbrev pub next_request : ℕ → AskerOf → Request
next_request victim a = record { victim = victim; seq = a.asked + 1 }

-- a request is made, and is pending; or why it isn't
abbrev pub asked : ℕ → AskerOf → Result Request AskError
asked victim a =
    if is_some a.pending then Err Busy
    else if nat_lt (a.asked + 1) (2 ^ 64) then Ok (next_request victim a)
    else Err Spent

-- what was answered is what was to be answered: with a request it is pending and counted, and a
-- refusal changes nothing
abbrev pub IsAsked : Result Request AskError → AskerOf → AskerOf → Result Request AskError → Type 0
IsAsked expected old new (Ok q) = (expected ≡ Ok q) × (new ≡ record { pending = Some q; asked = q.seq })
IsAsked expected old new (Err e) = (expected ≡ Err e) × (new ≡ old)

-- no request is pending
abbrev pub without_request : AskerOf → AskerOf
without_request a = record a { pending = None }

-- a request is forgotten if its victim is listed and isn't live
abbrev pub request_settled : Option Status → Option Request → Option Request
request_settled None q = q
request_settled (Some Live) q = q
request_settled (Some Dead) q = None
request_settled (Some (Left heir)) q = None

abbrev pub settled : Option Status → AskerOf → AskerOf
settled status a = record a { pending = request_settled status a.pending }
