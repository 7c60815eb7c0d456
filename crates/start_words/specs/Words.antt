-- A table and its pens, as callers see them.
use Rattle.std.specs.Prelude.{◌≡◌, ℕ, List, []}
use Rattle.std.specs.List.{flat_map}
use base.Stored.{Coded, coded×, coded_ℕ, coded_list, coded_via}
use Rattle.atomic_table.specs.Seated.{TableId, table_id_coded}
pub use Rattle.start_words.specs.Numbers.{EachOnce, IsStartWord}

-- a pen: the table that it is of, and the numbers that it drew, the newest last
pub record PenOf : Type 0 where
  pub table : TableId
  pub drawn : List ℕ

abbrev pub pen_code : Coded PenOf
pen_code = coded_via (coded× table_id_coded (coded_list coded_ℕ)) (λ (p : PenOf). (p.table, p.drawn)) (λ x y e i. record { table = (e i).0; drawn = (e i).1 })

-- a table: which it is, and how many pens it has
pub record TableOf : Type 0 where
  pub table : TableId
  pub pens : ℕ

abbrev pub table_code : Coded TableOf
table_code = coded_via (coded× table_id_coded coded_ℕ) (λ (t : TableOf). (t.table, t.pens)) (λ x y e i. record { table = (e i).0; pens = (e i).1 })

-- a pen of the table
abbrev pub IsPenOf : TableOf → PenOf → Type 0
IsPenOf t p = p.table ≡ t.table

-- a pen of the table that has drawn nothing
abbrev pub IsBlankPenOf : TableOf → PenOf → Type 0
IsBlankPenOf t p = (p.table ≡ t.table) × (p.drawn ≡ [])

-- what the pens drew, one pen's numbers after another's
abbrev pub drawn_by : List PenOf → List ℕ
drawn_by pens = flat_map (λ p. p.drawn) pens
