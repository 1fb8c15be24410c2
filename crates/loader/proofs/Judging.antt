-- What a child's output and end are judged to give.
use Rattle.std.proofs.Common.{◌≡◌, ◌≤◌, ℕ, List, [], Result, Ok, Err, length, arith, refl, sym, ap, subst}
use Rattle.std.specs.Prelude.{ℤ, IsErrOf, false, pos}
use Rattle.std.specs.List.{concat}
use Rattle.child_io.specs.Gathers.{Gathers, outcome_of}
use Rattle.child_io.specs.Runs.{RanToEnd}
use Rattle.child_io.specs.declared.pieces.Gathered.{Gathered}
use Rattle.child_io.specs.declared.pieces.PieceEnd.{PieceEnd}
use Rattle.child_io.specs.declared.pieces.PieceEnd.TheVariants.{NotStarted, Ended}
use Rattle.dict_io.specs.Outside.{HasCause}
use Rattle.dict_schema.specs.declared.definition.Definition.{Definition}
use Rattle.dict_value.specs.declared.fault.Cause.TheVariants as cause
use Rattle.dict_value.specs.declared.fault.Exit.TheVariants.{Code}
use Rattle.packed_rows.specs.Columns.{RowList}
use Rattle.loader.proofs.Accepting.{start-is}
use Rattle.loader.specs.Accepts.{Accepts, DecodesTo}
use Rattle.loader.specs.Origins.{Ran}
use Rattle.loader.specs.declared.fault.LoadFault.{LoadFault}
use Rattle.loader.specs.declared.fault.LoadFault.TheVariants.{Refused, NoMemory}
use Rattle.loader.specs.steps.Readings.{IsChildJudged, IsDecoded, IsRead}

-- a whole output that was gathered whole
pub judged-whole : (d : Definition) (g : Gathered) (status : ℤ) (result : Result RowList LoadFault) → status ≡ pos 0 → g.lost ≡ false → IsDecoded d g.bytes result → IsChildJudged d g (Ended (Code status)) result
judged-whole d g status (Ok rows) zero kept h = (ap (λ n. Ended (Code n)) zero, kept, h)
judged-whole d g status (Err (Refused why)) zero kept h = λ former output same.
    subst (λ (n : ℤ). Accepts d former (outcome_of (Ended (Code n)) output) (Err why)) (sym zero)
    (subst (λ (bytes : List ℕ). Accepts d former (outcome_of (Ended (Code (pos 0))) bytes) (Err why)) (same kept) (h former))
judged-whole d g status (Err NoMemory) zero kept h = λ e. cc

-- the same of the child's own output
pub read-given : (ran : Ran) (d : Definition) (words : List (List ℕ)) (g : Gathered) (pieces : List (List ℕ)) (ending : PieceEnd) (result : Result RowList LoadFault) → Gathers g pieces → RanToEnd ran words ending pieces → IsChildJudged d g ending result → IsRead ran d words (concat pieces) ending result
read-given ran d words g pieces ending (Ok rows) gathers full (ended, kept, decoded) = (
  ended,
  subst (λ (e : PieceEnd). RanToEnd ran words e pieces) ended full,
  subst (λ (bytes : List ℕ). DecodesTo d bytes (Ok rows)) (gathers.1 kept) decoded,
)
read-given ran d words g pieces ending (Err (Refused why)) gathers full h = λ former. h former (concat pieces) gathers.1
read-given ran d words g pieces ending (Err NoMemory) gathers full h = h

-- a child that isn't started is all that this cause comes of
no-start-there : (d : Definition) (g : Gathered) (result : Result RowList LoadFault) → IsChildJudged d g NotStarted result → result ≡ Err (Refused cause.Start)
no-start-there d g (Ok rows) (ended, kept, decoded) = absurd (cc (ended))
no-start-there d g (Err (Refused why)) h =
    let e : Err why ≡ Err cause.Start = h [] g.bytes (λ kept. refl) in
    let same : why ≡ cause.Start = cc in
    ap (λ z. Err (Refused z)) same
no-start-there d g (Err NoMemory) h = absurd (h refl)

no-start-here : (d : Definition) (g : Gathered) (ending : PieceEnd) (result : Result RowList LoadFault) → IsChildJudged d g ending result → result ≡ Err (Refused cause.Start) → ending ≡ NotStarted
no-start-here d g ending result h e =
    start-is d [] g.bytes ending (subst (IsChildJudged d g ending) e h [] g.bytes (λ kept. refl))

-- a cause of one fact is one of an equivalent one
pub cause-along : (before now : ℕ) (P Q : Type 0) → HasCause before now P → (P → Q) → (Q → P) → HasCause before now Q
cause-along before now P Q h there back = record { later = h.later; rose = λ q. h.rose (back q); still = λ no. h.still (λ p. no (there p)) }

pub start-cause : (before now : ℕ) (d : Definition) (g : Gathered) (ending : PieceEnd) (result : Result RowList LoadFault) → IsChildJudged d g ending result → HasCause before now (ending ≡ NotStarted) → HasCause before now (IsErrOf result (Refused cause.Start))
start-cause before now d g ending result h c = cause-along before now (ending ≡ NotStarted) (IsErrOf result (Refused cause.Start)) c (λ e. no-start-there d g result (subst (λ z. IsChildJudged d g z result) e h)) (no-start-here d g ending result h)

-- what was gathered within a limit is short
pub gathered-short : (g : Gathered) (pieces : List (List ℕ)) (limit most : ℕ) → Gathers g pieces → length (concat pieces) ≤ limit → limit ≤ most → g.lost ≡ false → length g.bytes ≤ most
gathered-short g pieces limit most gathers within fits lost =
    let e = ap length (gathers.1 lost) in
    omega (arith, e, within, fits)
