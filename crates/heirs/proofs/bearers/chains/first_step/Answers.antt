use Rattle.std.proofs.Common.{◌≡◌, ◌+◌, true, false, not, [], ◌∷◌, ◌++◌, take, Option, Some, None, Bor, refl, sym, ap, ◌∙◌}
use Rattle.std.proofs.lemmas.List.{take_more}
use Rattle.std.specs.Option.{is_some, option_copied, option_map}
use Rattle.ids.specs.Named.{item_in, put_in}
use Rattle.ids.specs.Naming.{name_of_member}
use Rattle.heirs.specs.declared.bearers.chains.Chain.{Chain}
use Rattle.heirs.specs.Chains.{name_of_chain, chain_of}
use Rattle.heirs.proofs.Tables.{added, passed}
use Rattle.heirs.proofs.bearers.chains.first_step.Goals as goal
use Rattle.heirs.proofs.bearers.chains.first_step.Goals.{then-is_none+in_ok-put, else-is_none}

-- what the test of a look-up says
none_there : (o : Option (Bor Chain)) → is_some o ≡ false → option_copied o ≡ None
none_there None none = refl
none_there (Some x) none = cc

-- the same where something is found
one_there : (o : Option (Bor Chain)) → is_some o ≡ true → (y : Chain) × (option_copied o ≡ Some y)
one_there None some = cc
one_there (Some x) some = (x.now, refl)

pub loop-member-preserved : goal.loop-member-preserved
loop-member-preserved c n =
    let members = c.args.members.now in
    let at = c.loop-member.member-index in
    let member = c.member-item.result in
    let table = c.loop-member.table in
    let more : take (at + 1) members ≡ take at members ++ member ∷ [] =
    take_more members at member c.loop-member-test.true
    ∙ ap (λ m. take at members ++ m ∷ []) (sym c.member-item.is) in
    let asked : option_copied c.get.result ≡ item_in name_of_chain (name_of_member member) table =
    cc c.get.ensures.same in
    elim c.if-is_none.branch [
      | then-is_none+in_ok-put w ↦
          (let none : is_some c.get.result ≡ false = c.is_none.ensures ∙ ap not w.if-is_none.true in
          let put : c.if-is_none.table ≡ put_in name_of_chain (chain_of member) table =
          w.table-is ∙ w.in_ok-put.ensures.ok
          ∙ ap (λ r. put_in name_of_chain (record { worker = member.incarnation; reach = r }) table) w.first.ensures
          in
          ap (item_in name_of_chain n) put
          ∙ added name_of_member name_of_chain chain_of (λ m. refl)
          (take at members) member table c.loop-member.invariant (sym asked ∙ none_there c.get.result none) n
          ∙ ap (λ ms. option_map chain_of (item_in name_of_member n ms)) (sym more))
      | else-is_none w ↦
          (let found = one_there c.get.result (c.is_none.ensures ∙ ap not w.if-is_none.false) in
          ap (item_in name_of_chain n) w.table-is
          ∙ passed name_of_member name_of_chain chain_of (λ m. refl)
          (take at members) member table found.0 c.loop-member.invariant (sym asked ∙ found.1) n
          ∙ ap (λ ms. option_map chain_of (item_in name_of_member n ms)) (sym more))
    ]
