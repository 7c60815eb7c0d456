-- The file that `format` writes.
use Rattle.std.proofs.Common.{◌≡◌, ℕ, ◌+◌, true, false, List, [], ◌∷◌, ◌++◌, length, take, drop, Option, get_or, set, replicate, refl, sym, ◌∙◌, ap, subst, arith, append_assoc, length-append}
use Rattle.std.proofs.lemmas.List.{take_at, drop_at, drop-drop, drop_all, append-nil, length-replicate, replicate-append-replicate}
use Rattle.std.specs.List.{splice}
use Rattle.disk.specs.Device.{Device}
use Rattle.disk.specs.File.{CrashLeaves, synced, written_file}
use Rattle.disk.proofs.Crashes.{bytes_of-synced, synced-only}
use Rattle.disk.proofs.Writes.{bytes_of-written}
use Rattle.checkpoint.specs.Calls.{Passed, after}
use Rattle.checkpoint.specs.Commit.{formatting}
use Rattle.checkpoint.specs.Pair.{IsOpen, slot, body}
use Rattle.checkpoint.specs.Format.{HasMoved, IsBegunBody, IsBoth, IsFormatted, IsFormattedSmall, IsMovedBody, SpellsLarge, SpellsMoved, SpellsSlot, fresh, name}
use Rattle.checkpoint.proofs.Splices.{splice_of}

abbrev pub blank : List ℕ → List ℕ → List ℕ
blank moved both = name ++ (1 ∷ 165 ∷ (moved ++ (replicate 64 0 ++ both)))

module _ (moved both : List ℕ) (job : ℕ) (small : IsMovedBody moved 0 job 0) (large : IsBoth both (fresh job)) where
  abbrev file : List ℕ
  file = blank moved both

  whole : length file ≡ 4360
  whole =
      let all = length-append moved (replicate 64 0 ++ both) in
      let rest = length-append (replicate 64 0) both in
      let zeros = length-replicate {A = ℕ} 64 0 in
      let a = small.size in
      let b = large.size in
      omega (arith, all, rest, zeros, a, b)

  behind : drop 136 file ≡ both
  behind = sym (drop-drop 64 63 (moved ++ (replicate 64 0 ++ both)))
      ∙ ap (λ (l : List ℕ). drop 64 l) (drop_at moved (replicate 64 0 ++ both) 63 small.size)
      ∙ drop_at (replicate 64 0) both 64 (length-replicate {A = ℕ} 64 0)

  first : slot 8 63 false file ≡ 165 ∷ moved
  first = ap (λ (l : List ℕ). 165 ∷ l) (take_at moved (replicate 64 0 ++ both) 63 small.size)

  second : slot 8 63 true file ≡ replicate 64 0
  second = ap (λ (l : List ℕ). take 64 l) (drop_at moved (replicate 64 0 ++ both) 63 small.size)
      ∙ take_at (replicate 64 0) both 64 (length-replicate {A = ℕ} 64 0)

  front : HasMoved file
  front = record {
    size = whole;
    named = refl;
    version = refl;
    second = false;
    moves = 0;
    moved = record {
      room = (let size = whole in omega (arith, size));
      gate = refl;
      content = subst (λ (l : List ℕ). SpellsMoved (body l) 0) (sym first)
          (record { job = job; epoch = 0; fields = small.fields });
      other = λ opened. let e : 0 ≡ 165 =
          ap (λ (l : List ℕ). get_or l 0 0) (sym second) ∙ opened in absurd (omega (arith, e));
    };
  }

  large_first : slot 136 2111 false file ≡ take 2112 both
  large_first = ap (λ (l : List ℕ). take 2112 l) behind

  large_second : slot 136 2111 true file ≡ replicate 2112 0
  large_second = ap (λ (l : List ℕ). take 2112 l) (sym (drop-drop 2112 136 file)
      ∙ ap (λ (l : List ℕ). drop 2112 l) behind ∙ large.large)

  pub blank_is_formatted : IsFormatted file job
  blank_is_formatted = record {
    store = record {
      front = front;
      current = record {
        room = (let size = whole in omega (arith, size));
        gate = subst IsOpen (sym large_first) large.gate;
        content = subst (λ (l : List ℕ). SpellsLarge (body l) 0 (fresh job)) (sym large_first) large.written.spells;
        other = λ opened. let e : 0 ≡ 165 =
            ap (λ (l : List ℕ). get_or l 0 0) (sym large_second) ∙ opened in absurd (omega (arith, e));
      };
    };
    moved = subst (λ (l : List ℕ). IsMovedBody l 0 job 0)
        (sym (take_at moved (replicate 64 0 ++ both) 63 small.size)) small;
    small = second;
    behind = subst (λ (l : List ℕ). IsBoth l (fresh job)) (sym behind) large;
  }

-- its parts put into zeros
pub built : (moved both b1 b2 b3 : List ℕ) → length moved ≡ 63 → length both ≡ 4224
    → b1 ≡ splice (replicate 4360 0) 0 7 name → b2 ≡ splice (set (set b1 7 1) 8 165) 9 (9 + length moved) moved
    → b3 ≡ splice b2 136 (136 + length both) both → b3 ≡ blank moved both
built moved both b1 b2 b3 size large e1 e2 e3 =
    let zeros : List ℕ = replicate 64 0 in
    let front : List ℕ = name ++ (1 ∷ 165 ∷ (moved ++ zeros)) in
    let halves : replicate {A = ℕ} 4288 0 ≡ zeros ++ replicate 4224 0 = sym (replicate-append-replicate 64 4224 0) in
    let shape : b2 ≡ front ++ (replicate 4224 0 ++ []) =
    e2 ∙ ap (λ n. splice (set (set b1 7 1) 8 165) 9 (9 + n) moved) size
    ∙ ap (λ (l : List ℕ). splice (set (set l 7 1) 8 165) 9 72 moved) e1
    ∙ ap (λ (l : List ℕ). name ++ (1 ∷ 165 ∷ (moved ++ l))) halves
    ∙ ap (λ (l : List ℕ). name ++ (1 ∷ 165 ∷ l)) (sym (append_assoc moved zeros (replicate 4224 0)))
    ∙ ap (λ (l : List ℕ). front ++ l) (sym (append-nil (replicate 4224 0))) in
    let begins : length front ≡ 136 = (let a = length-append moved zeros in let b =
    length-replicate {A = ℕ} 64 0 in omega (arith, a, b, size)) in
    let ends : length front + length (replicate {A = ℕ} 4224 0) ≡ 4360 =
    (let b = length-replicate {A = ℕ} 4224 0 in omega (arith, begins, b)) in
    e3 ∙ ap (λ n. splice b2 136 (136 + n) both) large ∙ ap (λ (l : List ℕ). splice l 136 4360 both) shape
    ∙ splice_of front (replicate 4224 0) [] both 136 4360 begins ends
    ∙ ap (λ (l : List ℕ). front ++ l) (append-nil both)
    ∙ ap (λ (l : List ℕ). name ++ (1 ∷ 165 ∷ l)) (append_assoc moved zeros both)

-- # The file of the older form

abbrev pub blank_small : List ℕ → List ℕ
blank_small begun = name ++ (1 ∷ 165 ∷ (begun ++ replicate 64 0))

module _ (begun : List ℕ) (job : ℕ) (small : IsBegunBody begun job) where
  abbrev small_file : List ℕ
  small_file = blank_small begun

  small_whole : length small_file ≡ 136
  small_whole =
      let all = length-append begun (replicate 64 0) in
      let zeros = length-replicate {A = ℕ} 64 0 in
      let a = small.size in
      omega (arith, all, zeros, a)

  small_first : slot 8 63 false small_file ≡ 165 ∷ begun
  small_first = ap (λ (l : List ℕ). 165 ∷ l) (take_at begun (replicate 64 0) 63 small.size)

  small_second : slot 8 63 true small_file ≡ replicate 64 0
  small_second = ap (λ (l : List ℕ). take 64 l) (drop_at begun (replicate 64 0) 63 small.size)

  pub blank_small_is : IsFormattedSmall small_file job
  blank_small_is = record {
    size = small_whole;
    store = record {
      most = (let size = small_whole in omega (arith, size));
      named = refl;
      version = refl;
      current = record {
        room = (let size = small_whole in omega (arith, size));
        gate = refl;
        content = subst (λ (l : List ℕ). SpellsSlot (body l) 0 (fresh job)) (sym small_first)
            (record { fields = small.fields; unsaved = refl });
        other = λ opened. let e : 0 ≡ 165 =
            ap (λ (l : List ℕ). get_or l 0 0) (sym small_second) ∙ opened in absurd (omega (arith, e));
      };
    };
  }

-- its parts put into zeros
pub built_small : (begun b1 b2 : List ℕ) → length begun ≡ 63 → b1 ≡ splice (replicate 136 0) 0 7 name
    → b2 ≡ splice (set (set b1 7 1) 8 165) 9 (9 + length begun) begun → b2 ≡ blank_small begun
built_small begun b1 b2 size e1 e2 =
    e2 ∙ ap (λ n. splice (set (set b1 7 1) 8 165) 9 (9 + n) begun) size
    ∙ ap (λ (l : List ℕ). splice (set (set l 7 1) 8 165) 9 72 begun) e1

-- a write over nothing
over_nothing : (file : List ℕ) → splice [] 0 (0 + length file) file ≡ file
over_nothing file = ap (λ (l : List ℕ). file ++ l) (drop_all (0 + length file) [] (omega arith)) ∙ append-nil file

-- what a crash leaves of it
made_left : (d new : Device) (plan : ℕ → Option (List ℕ)) (file : List ℕ) → Passed (formatting file) plan d new
    → (c : List ℕ) → CrashLeaves new.file c → c ≡ file
unfolding after
made_left d new plan file passed c left =
    let cells = written_file (take 0 d.file) 0 file in
    let stays : CrashLeaves (synced cells) c = subst (λ (x : Device). CrashLeaves x.file c) passed.made left in
    synced-only cells c stays ∙ bytes_of-synced cells ∙ bytes_of-written (take 0 d.file) 0 file ∙ over_nothing file

pub formatted_left : (d new : Device) (plan : ℕ → Option (List ℕ)) (file : List ℕ) (job : ℕ) → IsFormatted file job
    → Passed (formatting file) plan d new → (c : List ℕ) → CrashLeaves new.file c → IsFormatted c job
formatted_left d new plan file job is passed c left =
    subst (λ (l : List ℕ). IsFormatted l job) (sym (made_left d new plan file passed c left)) is

pub small_left : (d new : Device) (plan : ℕ → Option (List ℕ)) (file : List ℕ) (job : ℕ) → IsFormattedSmall file job
    → Passed (formatting file) plan d new → (c : List ℕ) → CrashLeaves new.file c → IsFormattedSmall c job
small_left d new plan file job is passed c left =
    subst (λ (l : List ℕ). IsFormattedSmall l job) (sym (made_left d new plan file passed c left)) is
