-- Whether a node may leave, and what it sends then.
use Rattle.std.specs.Prelude.{◌≡◌, ◌||◌, Bool, not, false, nat_eq, if◌then◌else◌, List, Option, None, Some, Result, Ok, Err, ◌⊎◌, map}
use Rattle.std.specs.List.{AllByRecursion, list_any}
use Rattle.ids.specs.Members.{is_live}
use Rattle.ids.specs.declared.member.Member.{Member}
use Rattle.task_tree.specs.declared.tree.Program.{Program}
use Rattle.codec.specs.Pieces.{cut_all}
use Rattle.codec.specs.Table.{PacketOf}
use Rattle.subcomputation.specs.Fitting.{Fits}
use Rattle.subcomputation.specs.Subs.{SubOf}
use Rattle.departure.specs.Offers.{offer, is_last_hop, is_too_big}
use Rattle.departure.specs.declared.freezing.FreezeError.{FreezeError}
use Rattle.departure.specs.declared.freezing.FreezeError.TheVariants as error
use Rattle.departure.specs.declared.freezing.Move.{Move}

-- the Offers of all that is held, by rising grant, each whole
abbrev pub wholes : Move → List SubOf → List PacketOf
wholes m subs = map (offer m.job m.from m.heir) subs

-- as they go: large ones in their pieces
abbrev pub offers : Move → List SubOf → List PacketOf
offers m subs = cut_all (wholes m subs)

-- the heir isn't another live member
abbrev pub lacks_heir : Move → List Member → Bool
lacks_heir m members = nat_eq m.heir m.from || not (is_live m.heir members)

-- why a node may not leave, by whether a request of it is pending; none where it may
abbrev pub refusal : Move → Bool → List Member → List SubOf → Option FreezeError
refusal m pending members subs =
    if pending then Some error.Pending
    else if lacks_heir m members then Some error.NoHeir
    else if list_any is_last_hop subs then Some error.HopSpent
    else if list_any is_too_big (wholes m subs) then Some error.TooBig
    else None

-- the Offers are made where nothing is in the way. Being out of memory comes behind all refusals
-- but that of too many bytes
abbrev pub Freezes : Option FreezeError → List PacketOf → Result (List PacketOf) FreezeError → Type 0
Freezes refused offers (Ok sent) = (refused ≡ None) × (sent ≡ offers)
Freezes refused offers (Err error.Pending) = refused ≡ Some error.Pending
Freezes refused offers (Err error.NoHeir) = refused ≡ Some error.NoHeir
Freezes refused offers (Err error.HopSpent) = refused ≡ Some error.HopSpent
Freezes refused offers (Err error.TooBig) = refused ≡ Some error.TooBig
Freezes refused offers (Err error.Memory) = (refused ≡ None) ⊎ (refused ≡ Some error.TooBig)

-- what is held fits the program
abbrev pub AllFit : Program → List SubOf → Type 0
AllFit p subs = AllByRecursion (λ s. Fits p s.content) subs

-- what is held can be offered: each can move once more, and its Offer isn't too big
pub record IsMovable (m : Move) (s : SubOf) : Type 0 where
  pub hop : is_last_hop s ≡ false
  pub size : is_too_big (offer m.job m.from m.heir s) ≡ false

abbrev pub AreMovable : Move → List SubOf → Type 0
AreMovable m subs = AllByRecursion (IsMovable m) subs
