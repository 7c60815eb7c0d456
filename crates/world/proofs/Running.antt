-- Runs that are under way: what was carried out so far, and the world to which it led.
use Rattle.std.proofs.Common.{◌≡◌, inl, inr, ℕ, ◌+◌, ◌<◌, ◌≤◌, add-one, append-nil, append_assoc, true, refl, sym, ap, ◌∙◌, List, [], ◌∷◌, ◌++◌, length, length-append, map, take, get_or, Option, None, Some, Result, Ok, Err, slice_get, arith}
use Rattle.std.proofs.lemmas.List.{map-append}
use Rattle.std.proofs.Math.Seq.{take-suc, take-append_seam}
use Rattle.event_script.specs.Lines.{Line, Skipped, Says, Refused, line_of}
use Rattle.event_script.specs.Scripts.{by_line, events_from, places, script}
use Rattle.event_script.specs.Left.{is_cut, is_cut_next}
use Rattle.event_script.specs.Words.{lines}
use Rattle.event_script.specs.declared.event.Event.{Event}
use Rattle.event_script.proofs.Lefts.{length_parts}
use Rattle.disk.specs.Device.{Device}
use Rattle.serial_meaning.specs.Job.{JobOf}
use Rattle.world_steps.specs.Answers.{StepResult}
use Rattle.world_steps.specs.Calls.{IsOutOfMemory, WorldOn}
use Rattle.world_steps.specs.Runs.{Entry, IsFormattedFor, Runs, ends, goes, last_of}
use Rattle.world_steps.specs.Steps.{Step}
use Rattle.world_steps.specs.World.{WorldOf, first_over}
use Rattle.world_steps.specs.declared.parts.NoMemory.{NoMemory}
use Rattle.world.specs.Runs.{IsRunTo, StopsIn, StopsReading}
use Rattle.world_steps.proofs.Going.{goes_on, last_on}

-- these events, one after another, led from a first world to this one
pub record IsUnderWay (job : JobOf) (past : List Event) (v : WorldOf) : Type 0 where
  pub disk : Device
  pub formatted : IsFormattedFor job disk
  pub entries : List Entry
  pub worlds : List WorldOf
  pub runs : Runs job (first_over disk) entries worlds
  pub carried : map (λ e. e.event) entries ≡ past
  pub at : last_of (first_over disk) worlds ≡ v

-- at first none did
pub first_under_way : (job : JobOf) (d : Device) (v : WorldOf) → IsFormattedFor job d → v ≡ first_over d
    → IsUnderWay job [] v
first_under_way job d v formatted is =
    record { disk = d; formatted = formatted; entries = []; worlds = []; runs = ends; carried = refl; at = sym is }

-- one more
pub on_under_way : (job : JobOf) (past : List Event) (v w : WorldOf) (e : Event) (o : StepResult)
    → IsUnderWay job past v → Step job e v o → w ≡ o.world → IsUnderWay job (past ++ e ∷ []) w
on_under_way job past v w e o u step is =
    let x : Entry = record { event = e; answer = o.answer } in
    record {
      disk = u.disk;
      formatted = u.formatted;
      entries = u.entries ++ x ∷ [];
      worlds = u.worlds ++ o.world ∷ [];
      runs = goes_on job (first_over u.disk) u.entries u.worlds x o.world u.runs (rw (← u.at) at step);
      carried = map-append (λ y. y.event) u.entries (x ∷ []) ∙ ap (λ ys. ys ++ e ∷ []) u.carried;
      at = last_on (first_over u.disk) u.worlds o.world ∙ sym is;
    }

-- one of them stops the run
pub run_stops : (Stops : Event → (last : WorldOf) → (on : WorldOn)
    → Type 0) (job : JobOf) (events past : List Event) (done : ℕ) (lacks : NoMemory) (e : Event) (w : WorldOf)
    (v : WorldOn)
    → IsUnderWay job past w → past ≡ take done events → slice_get events done ≡ Some e → Stops e w v
    → IsRunTo Stops job events done (Some lacks) v
run_stops Stops job events past done lacks e w v u front next stops =
    record {
      disk = u.disk;
      formatted = u.formatted;
      entries = u.entries;
      worlds = u.worlds;
      runs = u.runs;
      carried = u.carried ∙ front;
      ends = (e, next, rw u.at stops);
    }

-- it finds no memory, as a step tells it

pub out_of_memory_stops : (job : JobOf) (e : Event) (on : WorldOn) (o : StepResult) (v : WorldOn) → on.job ≡ job
    → IsOutOfMemory e on v.is_placed o → v.world ≡ o.world → StopsIn job e on.world v
out_of_memory_stops job e on o v same (inl s) is = (o, inl (rw (← same) s), is)
out_of_memory_stops job e on o v same (inr s) is = (o, inr (s.1, s.2), is)

pub one_out_of_memory : (job : JobOf) (events past : List Event) (done : ℕ) (lacks : NoMemory) (e : Event)
    (on : WorldOn) (o : StepResult) (v : WorldOn)
    → on.job ≡ job → IsUnderWay job past on.world → past ≡ take done events → slice_get events done ≡ Some e
    → IsOutOfMemory e on v.is_placed o → v.world ≡ o.world → IsRunTo (StopsIn job) job events done (Some lacks) v
one_out_of_memory job events past done lacks e on o v same u front next s is =
    run_stops (StopsIn job) job events past done lacks e on.world v u front next
    (out_of_memory_stops job e on o v same s is)

-- so it is of a replay
pub script_out_of_memory : (job : JobOf) (events past : List Event) (done : ℕ) (lacks : NoMemory) (e : Event)
    (on : WorldOn) (o : StepResult) (v : WorldOn)
    → on.job ≡ job → IsUnderWay job past on.world → past ≡ take done events → slice_get events done ≡ Some e
    → IsOutOfMemory e on v.is_placed o → v.world ≡ o.world
    → IsRunTo (StopsReading job) job events done (Some lacks) v
script_out_of_memory job events past done lacks e on o v same u front next s is =
    run_stops (StopsReading job) job events past done lacks e on.world v u front next
    (inl (out_of_memory_stops job e on o v same s is))

-- a Cut finds none
pub bytes_out_of_memory : (job : JobOf) (events past : List Event) (done : ℕ) (lacks : NoMemory) (e : Event)
    (w : WorldOn)
    → IsUnderWay job past w.world → past ≡ take done events → slice_get events done ≡ Some e → is_cut e ≡ true
    → IsRunTo (StopsReading job) job events done (Some lacks) w
bytes_out_of_memory job events past done lacks e w u front next cut =
    run_stops (StopsReading job) job events past done lacks e w.world w u front next (inr (cut, refl))

pub next_under_way : (job : JobOf) (past : List Event) (own : JobOf) (v w : WorldOf) (e : Event) (o : StepResult)
    → own ≡ job → IsUnderWay job past v → Step own e v o → w ≡ o.world → IsUnderWay job (past ++ e ∷ []) w
next_under_way job past own v w e o same u step is = on_under_way job past v w e o u (rw (← same) step) is

-- events by their number

pub take_next : (events : List Event) (k : ℕ) (e : Event) → k < length events → e ≡ get_or events k e
    → take (k + 1) events ≡ take k events ++ e ∷ []
take_next events k e within is = rw (add-one k)
    (take-suc events k e within ∙ ap (λ x. take k events ++ x ∷ []) (sym is))

-- events of which some are left

pub take_past : (past left : List Event) (done : ℕ) → length past ≡ done → past ≡ take done (past ++ left)
take_past past left done is = rw (← is) (sym (take-append_seam past left))

get_behind : (past left : List Event) (e : Event) → slice_get (past ++ e ∷ left) (length past) ≡ Some e
get_behind [] left e = refl
get_behind (x ∷ past) left e = get_behind past left e

pub get_left : (past left new : List Event) (e : Event) (done : ℕ) → length past ≡ done → left ≡ e ∷ new
    → slice_get (past ++ left) done ≡ Some e
get_left past left new e done is next = rw (← is, next) (get_behind past new e)

one_past : (past left new : List Event) (e : Event) → left ≡ e ∷ new → past ++ left ≡ (past ++ e ∷ []) ++ new
one_past past left new e next = ap (λ x. past ++ x) next ∙ sym (append_assoc past (e ∷ []) new)

length_past : (past : List Event) (e : Event) (done more : ℕ) → length past ≡ done → more ≡ done + 1
    → length (past ++ e ∷ []) ≡ more
length_past past e done more is one = omega (arith, is, one, length-append past (e ∷ []))

-- a script goes on by one more event

pub script_goes_on : (job own : JobOf) (text : List ℕ) (past left new : List Event) (e : Event) (done more : ℕ)
    (v w : WorldOf) (o : StepResult)
    → own ≡ job → script text ≡ Ok (past ++ left) → length past ≡ done → IsUnderWay job past v
    → left ≡ e ∷ new → Step own e v o → w ≡ o.world → more ≡ done + 1
    → (longer : List Event) × (script text ≡ Ok (longer ++ new)) × (length longer ≡ more) × IsUnderWay job longer w
script_goes_on job own text past left new e done more v w o same is at u next step led one = (
  past ++ e ∷ [],
  is ∙ ap Ok (one_past past left new e next),
  length_past past e done more at one,
  next_under_way job past own v w e o same u step led,
)

pub cut_left : (left : List Event) → is_cut_next left ≡ true
    → (e : Event) × (new : List Event) × (left ≡ e ∷ new) × (is_cut e ≡ true)
cut_left [] cut = absurd cc
cut_left (e ∷ new) cut = (e, new, refl, cut)

-- a script has at most one event more than bytes

count : Result (List Event) ℕ → ℕ
count (Ok es) = length es
count (Err n) = 0

count_line : (n : ℕ) (x : Line) (r : Result (List Event) ℕ) → count (by_line n x r) ≤ 1 + count r
unfolding count
count_line n Skipped r = omega arith
count_line n (Says e) (Ok es) = omega arith
count_line n (Says e) (Err k) = omega arith
count_line n Refused r = omega arith

count_lines : (most n : ℕ) (ls : List (List ℕ)) → count (events_from most n ls) ≤ length ls
unfolding count
count_lines most n [] = omega arith
count_lines most n (l ∷ ls) = omega (
  arith,
  count_lines most (n + 1) ls,
  count_line n (line_of most l) (events_from most (n + 1) ls),
)

pub script_length : (text : List ℕ) (es : List Event) → script text ≡ Ok es → length es ≤ length text + 1
unfolding count
script_length text es is =
    let least = count_lines (places (lines text)) 1 (lines text) in
    let same : count (script text) ≡ length es = ap count is in
    omega (arith, least, same, length_parts 10 text)

pub room_left : (text : List ℕ) (past left new : List Event) (e : Event) (done : ℕ) → script text ≡ Ok (past ++ left)
    → left ≡ e ∷ new → length past ≡ done → done ≤ length text
room_left text past left new e done is next at =
    let most = script_length text (past ++ left) is in
    let one : length left ≡ length (e ∷ new) = ap length next in
    omega (arith, most, one, at, length-append past left)

-- and ends where no event is left
pub script_ends : (job : JobOf) (text : List ℕ) (past left : List Event) (done : ℕ) (stopped : Option NoMemory)
    (v : WorldOn)
    → script text ≡ Ok (past ++ left) → left ≡ [] → length past ≡ done → stopped ≡ None → IsUnderWay job past v.world
    → (events : List Event) × (script text ≡ Ok events) × IsRunTo (StopsReading job) job events done stopped v
script_ends job text past left done stopped v is none at on u =
    let all : past ++ left ≡ past = ap (λ x. past ++ x) none ∙ append-nil past in
    let front : past ≡ take done past = take_past past [] done at ∙ ap (take done) (append-nil past) in (
      past,
      is ∙ ap Ok all,
      rw on (record {
        disk = u.disk;
        formatted = u.formatted;
        entries = u.entries;
        worlds = u.worlds;
        runs = u.runs;
        carried = u.carried ∙ front;
        ends = (sym at, sym u.at);
      }),
    )
