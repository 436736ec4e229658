-- Errors that are passed on.
use Rattle.std.proofs.Common.{◌≡◌, Result, Err, ap}
use Rattle.load_model.specs.declared.error.LoadRefusal.{LoadRefusal}
use Rattle.load_model.specs.declared.error.LoadErr.{LoadErr}
use Rattle.load_model.specs.declared.error.LoadErr.TheVariants.{Refused, StoreFault, Memory}
use Rattle.load_model.specs.declared.meaning.SiteValue.{SiteValue}
use Rattle.load_model.specs.Sites.{written}
use Rattle.load_sites.specs.parts.Answers.{Tells}

-- the error of a part tells why nothing is written
pub told : {X : Type 0} (value : X → SiteValue) (part : Result X LoadRefusal) (e : LoadErr) → Tells (λ x. part ≡ Err x) e → Tells (λ x. written value part ≡ Err x) e
told value part (Refused r) h = ap (written value) h
told value part StoreFault h = h
told value part Memory h = h
