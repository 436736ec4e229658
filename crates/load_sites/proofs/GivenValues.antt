-- What holds of the value of a site, where it has one, from its parts.
use Rattle.std.proofs.Common.{◌≡◌, Bool, true, false, cond, Result, Ok, Err}
use Rattle.load_model.specs.declared.error.LoadRefusal.{LoadRefusal}
use Rattle.load_model.specs.declared.meaning.SiteValue.{SiteValue}
use Rattle.load_model.specs.Sites.{written}

abbrev pub IfGiven : {X : Type 0} → (X → Type 0) → Result X LoadRefusal → Type 0
IfGiven P (Ok x) = P x
IfGiven P (Err e) = Unit {0}

-- a value that is given after a test passes it
pub tested : {X : Type 0} (P : X → Type 0) (x : X) (e : LoadRefusal) (test b : Bool) → (test ≡ true → P x) → test ≡ b → IfGiven P (cond b (Ok x) (Err e))
tested P x e test true holds is = holds is
tested P x e test false holds is = tt

pub chosen : {X : Type 0} (P : X → Type 0) (b : Bool) (x y : Result X LoadRefusal) → IfGiven P x → IfGiven P y → IfGiven P (cond b x y)
chosen P true x y px py = px
chosen P false x y px py = py

pub as_written : {X : Type 0} (Q : SiteValue → Type 0) (value : X → SiteValue) (P : X → Type 0) → ((x : X) → P x → Q (value x)) → (x : Result X LoadRefusal) → IfGiven P x → IfGiven Q (written value x)
as_written Q value P so (Ok x) p = so x p
as_written Q value P so (Err e) p = tt
