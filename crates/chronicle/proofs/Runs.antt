-- Runs, one step longer; and what is promised of them.
use Rattle.std.proofs.Common.{◌≡◌, Bool, List, [], ◌∷◌, ◌++◌, map, Some, false, true, ◌⊎◌, inl, inr, ⊎_elim, subst, refl, ap, ◌∙◌, sym}
use Rattle.ids.specs.declared.outcome.Outcome.{Outcome}
use Rattle.disk.specs.Device.{Device}
use Rattle.serial_meaning.specs.Job.{JobOf, IsJob, meaning_of}
use Rattle.event_script.specs.declared.event.Event.{Event}
use Rattle.table_laws.specs.Tables.{◌∈◌}
use Rattle.world_steps.specs.declared.parts.EventAnswer.{EventAnswer}
use Rattle.world_steps.specs.Agrees.{StoredAgree}
use Rattle.world_steps.specs.Answers.{StepResult}
use Rattle.world_steps.specs.Calls.{WorldOn, told_of}
use Rattle.world_steps.specs.First.{IsFirst}
use Rattle.world_steps.specs.Runs.{Runs, ends, goes, last_of}
use Rattle.world_steps.specs.Runs.{Entry as RunEntry}
use Rattle.world_steps.specs.Safe.{SafeWorld}
use Rattle.world_steps.specs.Steps.{Step}
use Rattle.world_steps.specs.World.{WorldOf, first_over}
use Rattle.world_steps.proofs.Meeting.{first_can}
use Rattle.run_laws.proofs.Sound.{all_safe, each_safe}
use Rattle.chronicle.specs.declared.kept.Entry.{Entry}
use Rattle.chronicle.specs.History.{IsHistory, IsSafeHistory, entry, outcome_told, reached, told_entry}
use Rattle.chronicle.specs.Kept.{IsLeftBy, OutOfMemoryBy, Reaches}
use Rattle.chronicle.proofs.Tellings.{told_recorded}

abbrev run_entry : Event → StepResult → RunEntry
run_entry event o = record { event = event; answer = o.answer }

longer : (job : JobOf) (w : WorldOf) (steps : List RunEntry) (worlds : List WorldOf) (event : Event) (o : StepResult)
    → Runs job w steps worlds → Step job event (last_of w worlds) o
    → Runs job w (steps ++ run_entry event o ∷ []) (worlds ++ o.world ∷ [])
longer job w [] [] event o ends step = goes step ends
longer job w [] (v ∷ worlds) event o ran step = elim ran [ ]
longer job w (e ∷ steps) [] event o ran step = elim ran [ ]
longer job w (e ∷ steps) (v ∷ worlds) event o (goes first_step rest) step =
    goes first_step (longer job v steps worlds event o rest step)

last-snoc : (w v : WorldOf) (worlds : List WorldOf) → last_of w (worlds ++ v ∷ []) ≡ v
last-snoc w v [] = refl
last-snoc w v (u ∷ worlds) = last-snoc u v worlds

-- the last of a run's worlds is one of them
last_there : (w : WorldOf) (worlds : List WorldOf) → last_of w worlds ∈ (w ∷ worlds)
last_there w [] = inl refl
last_there w (v ∷ worlds) = inr (last_there v worlds)

map-snoc : (steps : List RunEntry) (e : RunEntry)
    → map told_entry (steps ++ e ∷ []) ≡ map told_entry steps ++ told_entry e ∷ []
map-snoc [] e = refl
map-snoc (s ∷ steps) e = ap (λ l. told_entry s ∷ l) (map-snoc steps e)

-- a history with one event more, and the world that it reaches
record Grown (job : JobOf) (disk : Device) (entries : List Entry) (event : Event) (told : EventAnswer)
    (o : StepResult) : Type 0 where
  pub history : IsHistory job disk (entries ++ entry event told ∷ [])
  pub last : reached history ≡ o.world

grown : (job : JobOf) (disk : Device) (entries : List Entry) (h : IsHistory job disk entries) (event : Event)
    (told : EventAnswer) (o : StepResult) → Step job event (reached h) o → told ≡ told_of o.answer
    → Grown job disk entries event told o
grown job disk entries h event told o step is = record {
  history = record {
    first = h.first;
    steps = h.steps ++ run_entry event o ∷ [];
    worlds = h.worlds ++ o.world ∷ [];
    runs = longer job (first_over disk) h.steps h.worlds event o h.runs step;
    told = map-snoc h.steps (run_entry event o)
        ∙ (ap (λ l. l ++ entry event (told_of o.answer) ∷ []) h.told
        ∙ ap (λ t. entries ++ entry event t ∷ []) (sym is));
  };
  last = last-snoc (first_over disk) o.world h.worlds;
}

-- what is kept at first reaches the first world
abbrev pub Begins : JobOf → Device → WorldOn → Type 0
Begins job d on = IsFirst job d × (on ≡ record { job = job; world = first_over d; is_placed = true })

pub begins : (job : JobOf) (d : Device) (entries : List Entry) (on : WorldOn) → IsJob job → Begins job d on
    → entries ≡ [] → Reaches on.job d entries on.world false
begins job d entries on ok is none =
    subst (λ es. Reaches on.job d es on.world false) (sym none)
    (subst (λ (w : WorldOn). Reaches w.job d [] w.world false) (sym is.1)
    (record {
      own = ok;
      history = record { first = is.0; steps = []; worlds = []; runs = ends; told = refl };
      here = refl;
    }))

pub begun_world : (job : JobOf) (d : Device) (on : WorldOn) → Begins job d on
    → IsFirst job d × (on.world ≡ first_over d)
begun_world job d on is = (is.0, ap (λ (w : WorldOn). w.world) is.1)

-- an event found no memory
pub lacks_memory : (job : JobOf) (disk : Device) (entries more : List Entry) (world left : WorldOf) → more ≡ entries
    → (left ≡ world) ⊎ OutOfMemoryBy job world left → Reaches job disk entries world false
    → Reaches job disk more left true
lacks_memory job disk entries more world left same is there =
    subst (λ es. Reaches job disk es left true) (sym same) (record {
      own = there.own;
      history = there.history;
      here = ⊎_elim (λ stays. inl (stays ∙ there.here))
          (λ stops. inr (subst (λ w. OutOfMemoryBy job w left) there.here stops)) is;
    })

-- an event was carried out
abbrev pub Stepped : JobOf → Event → EventAnswer → (world next : WorldOf) → Type 0
Stepped job event told world next = (o : StepResult) × Step job event world o × (next ≡ o.world)
    × (told ≡ told_of o.answer)

pub goes_on : (job : JobOf) (disk : Device) (entries more : List Entry) (world next : WorldOf) (event : Event)
    (told : EventAnswer) → more ≡ entries ++ entry event told ∷ [] → Stepped job event told world next
    → Reaches job disk entries world false → Reaches job disk more next false
goes_on job disk entries more world next event told same stepped there =
    let o : StepResult = stepped.0 in
    let g = grown job disk entries there.history event told o
    (subst (λ w. Step job event w o) there.here stepped.1) stepped.3 in
    subst (λ es. Reaches job disk es next false) (sym same)
    (record { own = there.own; history = g.history; here = stepped.2 ∙ sym g.last })

-- each world of a history is safe, where what is saved on the disk agrees
worlds_safe : (job : JobOf) (disk : Device) (entries : List Entry) (ok : IsJob job) (h : IsHistory job disk entries)
    → StoredAgree job disk → (w : WorldOf) → w ∈ (first_over disk ∷ h.worlds) → SafeWorld job w
worlds_safe job disk entries ok h agree w m =
    each_safe job ok disk h.steps h.worlds (first_can job disk h.first agree) h.runs w m

-- what is told then is the job's meaning
pub tells_meaning : (job : JobOf) (disk : Device) (entries : List Entry) (world next : WorldOf) (event : Event)
    (told : EventAnswer) → Stepped job event told world next → Reaches job disk entries world false
    → StoredAgree job disk → (x : Outcome) → outcome_told told ≡ Some x → x ≡ meaning_of job
tells_meaning job disk entries world next event told stepped there agree x is =
    let o : StepResult = stepped.0 in
    let step : Step job event (reached there.history) o = subst (λ w. Step job event w o) there.here stepped.1 in
    let g = grown job disk entries there.history event told o step stepped.3 in
    let safe : SafeWorld job o.world = subst (λ w. SafeWorld job w) g.last
    (worlds_safe job disk (entries ++ entry event told ∷ []) there.own g.history agree _
    (last_there (first_over disk) g.history.worlds)) in
    safe.outcome x (told_recorded job event _ o step x (ap outcome_told (sym stepped.3) ∙ is))

-- a history that reaches a world is a safe one
pub safe_history : (job : JobOf) (disk : Device) (entries : List Entry) → IsJob job → IsHistory job disk entries
    → IsSafeHistory job disk entries
safe_history job disk entries ok h =
    record {
      history = h;
      safe = λ agree.
          all_safe job ok disk h.steps h.worlds (first_can job disk h.first agree) h.runs;
    }

-- and what stands then is what it leaves
pub left_by : (job : JobOf) (first : Device) (entries : List Entry) (world : WorldOf) (out_of_memory : Bool)
    (disk : Device) → Reaches job first entries world out_of_memory → disk ≡ world.disk
    → IsLeftBy job first entries out_of_memory disk
unfolding safe_history
left_by job first entries world out_of_memory disk there is =
    record {
      safe = safe_history job first entries there.own there.history;
      world = world;
      here = there.here;
      left = is;
    }

-- where no event was committed and none found no memory, the disk is the first one
stays : (job : JobOf) (w : WorldOf) (steps : List RunEntry) (worlds : List WorldOf) → Runs job w steps worlds
    → map told_entry steps ≡ [] → last_of w worlds ≡ w
stays job w [] [] ends none = refl
stays job w [] (v ∷ worlds) ran none = elim ran [ ]
stays job w (e ∷ steps) worlds ran none = absurd cc

pub untouched : (job : JobOf) (first : Device) (entries : List Entry) (disk : Device)
    → IsLeftBy job first entries false disk → entries ≡ [] → (disk ≡ first) × IsFirst job first
untouched job first entries disk is none =
    let h : IsHistory job first entries = is.safe.history in (
      is.left ∙ ap (λ (w : WorldOf). w.disk) (is.here
          ∙ stays job (first_over first) h.steps h.worlds h.runs (h.told ∙ none)),
      h.first,
    )
