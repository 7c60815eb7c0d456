-- What an answer tells, where it is passed on.
use Rattle.std.proofs.Common.{Result, Ok, Err, IfErr, IfOk, OnOk, OnErr, IsOk}

pub ok_holds : {T E P : Type 0} (r : Result T E) → P → OnOk r P
ok_holds (Ok x) p = p
ok_holds (Err e) p = tt

pub err_holds : {T E P : Type 0} (r : Result T E) → P → OnErr r P
err_holds (Ok x) p = tt
err_holds (Err e) p = p

pub ok_both : {T E P Q R : Type 0} (r : Result T E) → (P → Q → R) → OnOk r P → OnOk r Q → OnOk r R
ok_both (Ok x) f p q = f p q
ok_both (Err e) f p q = tt

pub err_both : {T E P Q R : Type 0} (r : Result T E) → (P → Q → R) → OnErr r P → OnErr r Q → OnErr r R
err_both (Ok x) f p q = tt
err_both (Err e) f p q = f p q

pub ok_told : {T E P : Type 0} (r : Result T E) → IsOk r → OnOk r P → P
ok_told (Ok x) is p = p
ok_told (Err e) is p = let no : ⊥ = cc in absurd no

pub err_three : {T E P Q S R : Type 0} (r : Result T E) → (P → Q → S → R) → OnErr r P → OnErr r Q → OnErr r S
    → OnErr r R
err_three (Ok v) f p q s = tt
err_three (Err e) f p q s = f p q s

pub if_ok_weaker : {T E : Type 0} {P Q : T → Type 0} (r : Result T E) → ((x : T) → P x → Q x) → IfOk r P → IfOk r Q
if_ok_weaker (Ok x) f p = f x p
if_ok_weaker (Err e) f p = tt

pub if_ok_both : {T E : Type 0} {P Q R : T → Type 0} (r : Result T E) → ((x : T) → P x → Q x → R x) → IfOk r P
    → IfOk r Q → IfOk r R
if_ok_both (Ok x) f p q = f x p q
if_ok_both (Err e) f p q = tt

pub if_err_weaker : {T E : Type 0} {P Q : E → Type 0} (r : Result T E) → ((x : E) → P x → Q x) → IfErr r P → IfErr r Q
if_err_weaker (Ok x) f p = tt
if_err_weaker (Err e) f p = f e p

pub if_err_both : {T E : Type 0} {P Q R : E → Type 0} (r : Result T E) → ((x : E) → P x → Q x → R x) → IfErr r P
    → IfErr r Q → IfErr r R
if_err_both (Ok x) f p q = tt
if_err_both (Err e) f p q = f e p q
