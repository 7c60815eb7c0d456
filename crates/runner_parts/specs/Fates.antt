-- What becomes of packets, by the words of a generator.
use Rattle.std.specs.Prelude.{ℕ, Bool, false, ◌+◌, ◌%◌, ◌^◌, ◌==◌, if◌then◌else◌}
use Rattle.rand_core.specs.Pcg32Seed.{pcg32_seed}
use Rattle.rand_pcg.specs.Lcg.{Lcg}
use Rattle.rand_pcg.specs.Pcg.{pcg32, pcg32_of_seed}
use Rattle.runner_parts.specs.declared.fates.Fate.{Fate}
use Rattle.runner_parts.specs.declared.fates.Fate.TheVariants.{Lost, Once, Twice}

-- the generator, and one packet in how many is lost and repeated; 0 for none
pub record FatesOf : Type 0 where
  pub words : Lcg
  pub lose : ℕ
  pub repeat : ℕ

-- of a place, by a fault word
abbrev pub first : ℕ → ℕ → ℕ → ℕ → FatesOf
first word place lose repeat = record { words = pcg32_of_seed (pcg32_seed 16 ((word + place) % 2 ^ 64)); lose = lose; repeat = repeat }

-- whether a word that is drawn is 0 modulo n, and the generator after it; where n is 0, none is
-- drawn
abbrev pub drawn : ℕ → Lcg → Bool × Lcg
drawn n g = if n == 0 then (false, g) else ((pcg32 g).0 % n == 0, (pcg32 g).1)

-- the fate of the next packet: it is lost; else it may come a second time
abbrev pub next_fate : FatesOf → Fate × FatesOf
next_fate f =
    let lost = drawn f.lose f.words in
    let again = drawn f.repeat lost.1 in
    if lost.0 then (Lost, record f { words = lost.1 }) else (if again.0 then Twice else Once, record f { words = again.1 })
