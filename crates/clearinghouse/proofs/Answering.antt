-- The answer that a thief had.
use Rattle.std.proofs.Common.{◌≡◌, ℕ, Bool, true, false, List, [], ◌∷◌, cond, Option, Some, None, IsTrue, Ordering, Less, Equal, Greater, refl}
use Rattle.std.specs.List.{AllByRecursion}
use Rattle.std.specs.Ordering.{nat_cmp}
use Rattle.codec.specs.Table.{PacketOf, is_short}
use Rattle.ids.specs.Keyed.{has_key}
use Rattle.ids.specs.Named.{Name, name_cmp, item_in}
use Rattle.steal_protocol.specs.Replies.{Again, Newer, Older, by_order, heard, name_of_reply, reply_in}
use Rattle.steal_protocol.specs.declared.replies.Reply.{Reply}

-- what holds of all items holds of one that is found
all_found : {X : Type 0} (name : X → Name) (P : X → Type 0) (n : Name) (x : X) (xs : List X) → AllByRecursion P xs
    → item_in name n xs ≡ Some x → P x
all_found name P n x [] h there = cc
all_found name P n x (y ∷ ys) h there = by_test (all_found name P n x ys h.1) (has_key name name_cmp n y) there
  where
    by_test : (item_in name n ys ≡ Some x → P x) → (b : Bool) → cond b (Some y) (item_in name n ys) ≡ Some x → P x
    by_test rest true at = let same : y ≡ x = cc in rw (← same) h.0
    by_test rest false at = rest at

-- the same request again gets an answer that is no Offer, where all are none
pub again_short : (seq thief : ℕ) (p : PacketOf) (replies : List Reply)
    → AllByRecursion (λ r. IsTrue (is_short r.packet.body)) replies → Again p ≡ heard (reply_in thief replies) seq
    → IsTrue (is_short p.body)
unfolding by_order
again_short seq thief p replies short is = by_reply (reply_in thief replies) refl is
  where
    by_cmp : (r : Reply) → IsTrue (is_short r.packet.body) → (c : Ordering)
        → Again p ≡ by_order c Older (Again r.packet) Newer → IsTrue (is_short p.body)
    by_cmp r small Less at = cc
    by_cmp r small Equal at = let same : p ≡ r.packet = cc in rw same small
    by_cmp r small Greater at = cc

    by_reply : (o : Option Reply) → reply_in thief replies ≡ o → Again p ≡ heard o seq → IsTrue (is_short p.body)
    by_reply None there at = cc
    by_reply (Some r) there at = by_cmp r
        (all_found name_of_reply (λ x. IsTrue (is_short x.packet.body)) (thief, 0) r replies short there)
        (nat_cmp seq r.seq) at
