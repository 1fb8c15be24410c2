use Rattle.overlay.proofs.OneOverlay.{one-overlay, overlay-apart, overlay-types}
use Rattle.overlay.proofs.laws.one_overlay.Goals as goal

pub returns-clause-one : goal.returns-clause-one
returns-clause-one c = one-overlay

pub returns-clause-types : goal.returns-clause-types
returns-clause-types c = overlay-types

pub returns-clause-apart : goal.returns-clause-apart
returns-clause-apart c = overlay-apart
