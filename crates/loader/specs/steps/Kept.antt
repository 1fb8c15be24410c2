-- What holds of each loader, and which definition a load has.
use Rattle.std.specs.Prelude.{◌≡◌, ◌≢◌, ◌≤◌, ℕ, false, Option}
use Rattle.std.specs.Option.{option_map_or}
use Rattle.child_io.specs.declared.words.Since.TheVariants.{From}
use Rattle.dict_schema.specs.Parts.{is_keyed_layout}
use Rattle.dict_schema.specs.Sound.{IsSound}
use Rattle.dict_schema.specs.declared.definition.Definition.{Definition}
use Rattle.dict_value.specs.declared.fault.Cause.{Cause}
use Rattle.dict_value.specs.declared.fault.Cause.TheVariants as cause
use Rattle.load_core.specs.declared.dictionary.DictCore.{DictCore}
use Rattle.load_core.specs.declared.dictionary.Phase.TheVariants.{Idle}
use Rattle.packed_rows.specs.Columns.{RowList}
use Rattle.loader.specs.Loaders.{LoaderState}
use Rattle.loader.specs.Timing.{Timing, after_ok, with_lifetime}
use Rattle.loader.specs.declared.answers.LoadEnd.{LoadEnd}
use Rattle.loader.specs.declared.answers.LoadEnd.TheVariants.{Failed, NoMemory}
use Rattle.loader.specs.declared.fault.LoadFault.{LoadFault}
use Rattle.loader.specs.declared.fault.LoadFault.TheVariants as fault
use Rattle.loader.specs.steps.Makings.{CanFollow}

-- no load runs, and the definition's rows and lifetime are kept
pub record CanLoad (d : Definition) (core : DictCore) (timing : Timing) (former : RowList) : Type 0 where
  pub sound : IsSound d
  pub unkeyed : is_keyed_layout d.layout ≡ false
  pub idle : core.phase ≡ Idle
  pub fewer : core.published ≤ core.loads
  pub lifetime : timing.lifetime ≡ d.lifetime
  pub follows : CanFollow d former

-- the definition of a load: another one, or the current one
abbrev pub definition_by : Option Definition → Definition → Definition
definition_by other current = option_map_or (λ d. d) other current

-- another definition is a sound one that may be loaded
pub record IsOther (current d : Definition) : Type 0 where
  pub sound : IsSound d
  pub unkeyed : is_keyed_layout d.layout ≡ false
  pub differs : d ≢ current

-- how a fault ends a load, and what is posted of it
abbrev pub fault_end : LoadFault → LoadEnd
fault_end (fault.Refused why) = Failed why
fault_end fault.NoMemory = NoMemory

abbrev pub posted_cause : LoadFault → Cause
posted_cause (fault.Refused why) = why
posted_cause fault.NoMemory = cause.NoMemory

-- a loader after a published load with a definition
abbrev pub after_version : Definition → DictCore → RowList → ℕ → LoaderState → LoaderState
after_version d core kept now l =
    record l {
      definition = d;
      core = core;
      timing = after_ok (with_lifetime l.timing d.lifetime) now;
      since = From now;
      former = kept;
    }
