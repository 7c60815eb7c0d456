-- Seats that are dealt, and seats that are gathered.
use Rattle.std.proofs.Common.{◌≡◌, ℕ, suc, ◌+◌, List, [], ◌∷◌, ◌++◌, All, Some, map, length, if◌then◌else◌, ◌==◌, refl, ap, subst, ◌∙◌, sym, arith}
use Rattle.std.specs.List.{range_with_len}
use Rattle.std.proofs.lemmas.List.{append_assoc}
use Rattle.std.proofs.lemmas.List.Elements.{All-head, All-map, All-push, All-tail, All-weaker}
use Rattle.serial_meaning.specs.Job.{JobOf}
use Rattle.turn_lock.specs.Claims.{ClaimOf, claim, entries_in}
use Rattle.turn_lock.specs.Seats.{IsBlankSeatOf, IsFreeSeatOf, LockOf, SeatOf}
use Rattle.disk.specs.Device.{Device}
use Rattle.chronicle.specs.declared.kept.Entry.{Entry}
use Rattle.chronicle.specs.History.{BeginningOf, beginning}
use Rattle.chronicle.specs.Seats.{ActorSeatOf, ChronicleOf, IsBlankSeatIn, IsSeatIn, chronicle_of, claims_of, entries_of, first_last, seat_of}

claims_of-snoc : (seats : List ActorSeatOf) (s : ActorSeatOf)
    → claims_of (seats ++ s ∷ []) ≡ claims_of seats ++ claim s.actor s.entries ∷ []
claims_of-snoc [] s = refl
claims_of-snoc (t ∷ ts) s = ap (λ l. claim t.actor t.entries ∷ l) (claims_of-snoc ts s)

-- a seat goes from those that are left to those that are gathered
pub moved : (left less : List ActorSeatOf) (s : ActorSeatOf) (cs : List (ClaimOf Entry)) → left ≡ less ++ s ∷ []
    → claims_of less ++ (claim s.actor s.entries ∷ cs) ≡ claims_of left ++ cs
moved left less s cs is = sym (append_assoc (claims_of less) (claim s.actor s.entries ∷ []) cs)
    ∙ ap (λ l. l ++ cs) (sym (claims_of-snoc less s) ∙ ap claims_of (sym is))

pub none_left : (left : List ActorSeatOf) → length left ≡ 0 → claims_of left ≡ []
none_left [] n = refl
none_left (s ∷ ss) n = absurd (omega arith)

pub length-claims_of : (seats : List ActorSeatOf) → length (claims_of seats) ≡ length seats
length-claims_of [] = refl
length-claims_of (s ∷ ss) = ap suc (length-claims_of ss)

pub entries_in-claims_of : (seats : List ActorSeatOf) (a : ℕ) → entries_in (claims_of seats) a ≡ entries_of seats a
entries_in-claims_of [] a = refl
entries_in-claims_of (s ∷ ss) a = ap (λ l. (if s.actor == a then s.entries else []) ++ l) (entries_in-claims_of ss a)

-- the first goes behind the others

abbrev Bare : Type 0
Bare = SeatOf Entry BeginningOf

pub map-snoc : (bare : List Bare) (s : Bare) → map seat_of (bare ++ s ∷ []) ≡ map seat_of bare ++ seat_of s ∷ []
map-snoc [] s = refl
map-snoc (b ∷ bs) s = ap (λ l. seat_of b ∷ l) (map-snoc bs s)

actors-snoc : (bare : List Bare) (s : Bare)
    → map (λ (a : ActorSeatOf). a.actor) (map seat_of (bare ++ s ∷ []))
    ≡ map (λ (b : Bare). b.actor) bare ++ s.actor ∷ []
actors-snoc [] s = refl
actors-snoc (b ∷ bs) s = ap (λ l. b.actor ∷ l) (actors-snoc bs s)

-- the clearinghouse's seat, the first one, goes behind those of the nodes
pub in_order : (bare : List Bare) (seats : List ActorSeatOf) (nodes : ℕ) → seats ≡ map seat_of (first_last bare)
    → map (λ (b : Bare). b.actor) bare ≡ range_with_len 0 (nodes + 1)
    → map (λ (s : ActorSeatOf). s.actor) seats ≡ range_with_len 1 nodes ++ 0 ∷ []
in_order bare seats nodes is order = ap (map (λ (s : ActorSeatOf). s.actor)) is ∙ turned bare (order ∙ split)
  where
    split : range_with_len 0 (nodes + 1) ≡ 0 ∷ range_with_len 1 nodes
    split = (let e : nodes + 1 ≡ suc nodes = omega arith in ap (range_with_len 0) e)

    turned : (bare : List Bare) → map (λ (b : Bare). b.actor) bare ≡ 0 ∷ range_with_len 1 nodes
        → map (λ (s : ActorSeatOf). s.actor) (map seat_of (first_last bare)) ≡ range_with_len 1 nodes ++ 0 ∷ []
    turned [] is = absurd cc
    turned (b ∷ bs) is =
        let first : b.actor ≡ 0 = cc in
        let rest : map (λ (s : Bare). s.actor) bs ≡ range_with_len 1 nodes = cc in
        actors-snoc bs b ∙ (ap (λ (l : List ℕ). l ++ b.actor ∷ []) rest
        ∙ ap (λ (n : ℕ). range_with_len 1 nodes ++ n ∷ []) first)

-- all are blank seats
pub all_blank : (lock : LockOf BeginningOf) (c : ChronicleOf) (bare : List Bare) (seats : List ActorSeatOf)
    → c.chronicle ≡ lock.table → c.actors ≡ lock.actors → c.job ≡ lock.fixed.job → c.first ≡ lock.fixed.disk
    → seats ≡ map seat_of (first_last bare) → All (IsBlankSeatOf lock) bare → All (IsBlankSeatIn c) seats
all_blank lock c bare seats table actors job first is blank =
    rw is (All-map (IsBlankSeatIn c) seat_of (first_last bare) (turned bare blank))
  where
    one : (b : Bare) → IsBlankSeatOf lock b → IsBlankSeatIn c (seat_of b)
    one b (((t, n, f), free), none) = (
      record {
        chronicle = t ∙ sym table;
        actors = n ∙ sym actors;
        free = free;
        began =
            f ∙ (ap (λ (j : JobOf). Some (beginning j lock.fixed.disk)) (sym job)
            ∙ ap (λ (d : Device). Some (beginning c.job d)) (sym first));
      },
      none,
    )

    each : (bare : List Bare) → All (IsBlankSeatOf lock) bare → All (λ (b : Bare). IsBlankSeatIn c (seat_of b)) bare
    each bare all = All-weaker (IsBlankSeatOf lock) (λ (b : Bare). IsBlankSeatIn c (seat_of b)) one bare all

    turned : (bare : List Bare) → All (IsBlankSeatOf lock) bare
        → All (λ (b : Bare). IsBlankSeatIn c (seat_of b)) (first_last bare)
    turned [] all = each [] all
    turned (b ∷ bs) all = All-push (λ (b : Bare). IsBlankSeatIn c (seat_of b)) bs b
        (each bs (All-tail (IsBlankSeatOf lock) b bs all)) (one b (All-head (IsBlankSeatOf lock) b bs all))

-- a seat of the chronicle is a seat of its lock
pub free_seat : (lock : LockOf BeginningOf) (seat : Bare) (c : ChronicleOf) (s : ActorSeatOf) → chronicle_of lock ≡ c
    → seat_of seat ≡ s → IsSeatIn c s → IsFreeSeatOf lock seat
free_seat lock seat c s same own is =
    let h : IsSeatIn (chronicle_of lock) (seat_of seat) =
    subst (λ (a : ActorSeatOf). IsSeatIn (chronicle_of lock) a) (sym own)
    (subst (λ (b : ChronicleOf). IsSeatIn b s) (sym same) is) in
    ((h.chronicle, h.actors, h.began), h.free)
