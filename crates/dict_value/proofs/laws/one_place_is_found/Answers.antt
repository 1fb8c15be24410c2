-- Of two least places neither is the lesser.
use Rattle.dict_value.proofs.FirstPlaces.{one-found}
use Rattle.dict_value.proofs.laws.one_place_is_found.Goals as goal

pub returns : goal.returns
returns g c = one-found
