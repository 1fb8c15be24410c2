use Rattle.std.proofs.Common.{ap, length, refl, subst, sym}
use Rattle.dict_schema.specs.declared.definition.Update.{Update}
use Rattle.loader.proofs.RowsTaken.{none-follow}
use Rattle.loader.specs.Accepts.{Lays}
use Rattle.loader.specs.Loaders.{kept_rows}
use Rattle.loader.specs.steps.Makings.{kept_in}
use Rattle.loader.proofs.making.make.Goals as goal

pub returns-in_ok-version-in-None : goal.returns-in_ok-version-in-None
returns-in_ok-version-in-None g c =
    let d = c.args.d.now in
    record {
      rows = c.args.fresh;
      taken = c.in_ok-version-in-None.ensures.1;
      laid = subst (λ (u : Update). Lays u (length d.keys) (kept_in c.args.former.now) c.args.fresh c.args.fresh) (sym c.in-None.is) refl;
      version_is = c.in_ok-version-in-None.ensures.0;
      kept_is = sym (ap (λ (u : Update). kept_rows u c.args.fresh) c.in-None.is);
      follows = none-follow d;
    }
