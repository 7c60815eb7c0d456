-- One link of a chain of heirs.
use Rattle.std.specs.Prelude.{ℕ, Option, None, Some}
use Rattle.clearinghouse.specs.declared.book.Link.{Link}
use Rattle.clearinghouse.specs.declared.book.Link.TheVariants.{Here, Nobody, At}

-- who has a worker's work by where it is, where `on` says who has that of an heir
abbrev pub bearer_at : (ℕ → Option ℕ) → ℕ → Link → Option ℕ
bearer_at on i Here = Some i
bearer_at on i Nobody = None
bearer_at on i (At heir) = on heir
