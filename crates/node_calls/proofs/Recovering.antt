-- One roster that shows a holder dead, another one left to a live heir, and a subcomputation's host
-- dead, computed.
use Rattle.std.specs.Prelude.{◌≡◌, refl, ℕ, pos, List, [], ◌∷◌, None, Some, map}
use Rattle.ids.specs.Members.{follow}
use Rattle.ids.specs.Names.{Grant, house_of}
use Rattle.ids.specs.declared.member.Status.{Status}
use Rattle.ids.specs.declared.member.Status.TheVariants.{Live, Dead, Left}
use Rattle.ids.specs.declared.outcome.Progress.TheVariants.{Active}
use Rattle.ids.specs.declared.returns.Return.TheVariants.{Whole}
use Rattle.ids.specs.declared.work.Record.{Record}
use Rattle.codec.specs.Table.{PacketOf}
use Rattle.codec.specs.declared.body.Body.TheVariants as body
use Rattle.codec.specs.declared.body.Roster.{Roster}
use Rattle.serial_meaning.proofs.Fib.{Pointer}
use Rattle.steal_protocol.specs.Replies.{by_order}
use Rattle.subcomputation.specs.Recovering as recovering
use Rattle.subcomputation.specs.Subs.{SubOf}
use Rattle.node_state.specs.Node.{NodeOf, by_state, starting}
use Rattle.node_state.specs.declared.parts.State.TheVariants.{Member}
use Rattle.node_steps.specs.Cases.{by_option, by_status, on_body}
use Rattle.node_steps.specs.Steps.{StepOf, for_some}
use Rattle.node_calls.proofs.Playing.{job_of, step_of}

abbrev own : ℕ → Grant
own n = record { minter = 3; number = n }

-- a record under an own grant, of frame n
abbrev stolen : ℕ → ℕ → ℕ → Record
stolen g holder n = record {
  grant = own g;
  holder = holder;
  frame = n;
  task = record { place = 1 ∷ []; thread = 0; numbers = pos 0 ∷ [] };
  returns = Whole;
}

abbrev sub : Grant → ℕ → List Record → SubOf
sub g host records = record {
  grant = g;
  hop = 0;
  saved = [];
  content = record {
    parent = host;
    progress = Active;
    task = record { place = []; thread = 0; numbers = [] };
    next = 9;
    frames = [];
    records = records;
  };
}

abbrev roster : ℕ → Status → Status → Status → Roster
roster version of_11 of_12 of_14 = record {
  epoch = 1;
  version = version;
  members = record { incarnation = 3; status = Live } ∷ record {
    incarnation = 11;
    status = of_11;
  } ∷ record { incarnation = 12; status = of_12 } ∷
      record { incarnation = 13; status = Live } ∷ record { incarnation = 14; status = of_14 } ∷ [];
}

-- worker 3 holds three subcomputations, of hosts 13, 14 and the clearinghouse; 11 holds the frames
-- of grants 1, 2 and 3, and 12 that of grant 4
abbrev before : NodeOf
before = record (starting 3) {
  state = Member (roster 2 Live Live Live);
  subs =
      sub (record { minter = 13; number = 5 }) 13 (stolen 1 11 4 ∷ []) ∷
      sub (record { minter = 14; number = 1 }) 14 (stolen 3 11 6 ∷ []) ∷
      sub (record { minter = house_of 1; number = 1 }) (house_of 1) (stolen 2 11 7 ∷ stolen 4 12 8 ∷ []) ∷ [];
  asker = record { pending = Some (record { victim = 12; seq = 4 }); asked = 4 };
}

-- 11 and 14 are dead, and 12 has left to 13
step : Pointer → StepOf
unfolding on_body
step p = step_of (job_of p) before (on_body (job_of p) None (body.Roster (roster 3 Dead (Left 13) Dead)) before)

abbrev abort : ℕ → PacketOf
abort n = record { job = 1; to = 11; body = body.Abort (record { grant = own n }) }

-- what waited for 14 is dropped first; then the records that 11 held are closed, by rising grant
-- over all subcomputations
aborts : (p : Pointer) → (step p).sent ≡ abort 3 ∷ abort 1 ∷ abort 2 ∷ []
unfolding step on_body follow by_state by_option by_status by_order for_some recovering.for_some
aborts p = refl

-- their frames are ready again, under their old numbers
again : (p : Pointer) → (step p).ready ≡
    record { grant = record { minter = 13; number = 5 }; frame = record { frame = 4; level = 1 } } ∷
    record { grant = record { minter = house_of 1; number = 1 }; frame = record { frame = 7; level = 1 } } ∷ []
unfolding step on_body follow by_state by_option by_status by_order for_some recovering.for_some
again p = refl

-- what 12 held, 13 holds
holders : (p : Pointer) → map (λ (s : SubOf). map (λ (r : Record). r.holder) s.content.records) (step p).after.subs
    ≡ [] ∷ (13 ∷ []) ∷ []
unfolding step on_body follow by_state by_option by_status by_order for_some recovering.for_some
holders p = refl

-- the request to 12, which has left, is forgotten
pending : (p : Pointer) → (step p).after.asker.pending ≡ None
unfolding step on_body follow by_state by_option by_status by_order for_some recovering.for_some
pending p = refl
