-- The numbers that acts tell.
use Rattle.std.proofs.Common.{◌≤◌, ◌==◌, ℕ, List, [], ◌∷◌, Bool, true, false, max, Ok, Err, Result, arith, if◌then◌else◌}
use Rattle.dict_session.specs.Acts.{Called, Configured, Entered, Keyed, Taught, Reloaded}
use Rattle.dict_session.specs.declared.desk.ConfigEnd.{ConfigEnd}
use Rattle.dict_value.specs.declared.fault.CallFault.{CallFault}
use Rattle.dict_value.specs.declared.fault.Cause.{Cause}
use Rattle.dict_value.specs.declared.fault.FetchFault.{FetchFault}
use Rattle.dict_value.specs.declared.value.FetchedRow.{FetchedRow}
use Rattle.dict_value.specs.declared.value.Value.{Value}
use Rattle.dict_session.specs.Serving.{Tells}
use Rattle.dict_version.specs.Contents.{Contents}
use Rattle.load_core.specs.declared.caller.CallerEvent.TheVariants as event
use Rattle.loader.specs.declared.answers.LoadEnd.TheVariants as end
use Rattle.loader.specs.declared.answers.StatusRow.{StatusRow}
use Rattle.version_slot.specs.Views.{Entered as Seen}
use Rattle.version_slot.specs.declared.seen.EnterFault.{EnterFault}

if_told : (b : Bool) (floor : ℕ) → floor ≤ (if b then max floor 0 else floor)
if_told true floor = omega arith
if_told false floor = omega arith

pub tells_none : (place : ℕ) → Tells [] place (event.Told 0)
tells_none place e floor = if_told (place == e) floor

pub tells_refused : (d place : ℕ) (fault : EnterFault) → Tells (Entered d (Err fault) ∷ []) place (event.Told 0)
tells_refused d place fault e floor = if_told (place == e) floor

pub tells_entered : (d : ℕ) (seen : Seen Contents) → Tells (Entered d (Ok seen) ∷ []) d (event.Entered seen.number)
tells_entered d seen e floor = omega arith

pub tells_taught : (d : ℕ) (row : StatusRow) → Tells (Taught d row ∷ []) d (event.Told row.number)
tells_taught d row e floor = omega arith

pub tells_published : (d now n : ℕ) → Tells (Reloaded d now (end.Published n) ∷ []) d (event.Told n)
tells_published d now n e floor = omega arith

-- a load that published nothing
pub tells_failed : (d now place : ℕ) (cause : Cause) → Tells (Reloaded d now (end.Failed cause) ∷ []) place (event.Told 0)
tells_failed d now place cause e floor = if_told (place == e) floor

pub tells_refused_load : (d now place : ℕ) → Tells (Reloaded d now end.NoMemory ∷ []) place (event.Told 0)
tells_refused_load d now place e floor = if_told (place == e) floor

pub tells_config : (now place : ℕ) (answer : ConfigEnd) → Tells (Configured now answer ∷ []) place (event.Told 0)
tells_config now place answer e floor = if_told (place == e) floor

pub tells_keyed : (d now place : ℕ) (keys : List (List Value)) (answer : Result (List FetchedRow) FetchFault) → Tells (Keyed d now keys answer ∷ []) place (event.Told 0)
tells_keyed d now place keys answer e floor = if_told (place == e) floor

pub tells_called : (f place : ℕ) (rows : List (List Value)) (answer : Result (List Value) CallFault) → Tells (Called f rows answer ∷ []) place (event.Told 0)
tells_called f place rows answer e floor = if_told (place == e) floor
