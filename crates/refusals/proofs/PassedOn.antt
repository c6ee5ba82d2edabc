-- A refusal that is passed on by `?`: the answer of the call is that of the call that refused.
use Rattle.std.proofs.Common.{◌≡◌, ap}
use Rattle.std.specs.Result.{IsErrAnd}
use Rattle.std.specs.declared.result.Result.{Result}
use Rattle.std.specs.declared.result.Result.TheVariants.{Ok, Err}
use Rattle.refusals.specs.declared.Fault.{Fault}
use Rattle.refusals.specs.declared.Refusal.{Refusal}
use Rattle.refusals.specs.Numbers.{number, fault_number, code, fault_code}

pub passed_on : {A : Type 0} (r : Result A Refusal) (e : Refusal) → IsErrAnd r (λ x. x ≡ e) → code r ≡ number e
passed_on (Ok x) e h = elim h [ ]
passed_on (Err x) e h = ap number h

-- The same of a fault.
pub fault_passed_on : {A : Type 0} (r : Result A Fault) (e : Fault) → IsErrAnd r (λ x. x ≡ e) → fault_code r ≡ fault_number e
fault_passed_on (Ok x) e h = elim h [ ]
fault_passed_on (Err x) e h = ap fault_number h
