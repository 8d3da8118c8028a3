use Rattle.std.proofs.Common.{◌≡◌, Ok, Err, rules, ◌∙◌, ap}
use Rattle.spec.specs.Transaction.{state_of}
use Rattle.cardfile.specs.Lines.{line_number}
use Rattle.loader.specs.declared.LoadFault.TheVariants.{LineRefused, BadLine}
use Rattle.loader.proofs.Laws.{told-as, told-fine, line-refused, line-started}
use Rattle.loader.proofs.Load.take_line.Goals as goal

pub returns-in_err-found : goal.returns-in_err-found
returns-in_err-found c =
    let load = c.args.self.now in
    let why = told-as c.line_at-found.result c.map_err.result _ c.map_err.ensures.cases c.in_err-found.field-0.0 c.in_err-found.was in
    let f : c.in_err-found.field-0.0 ≡ BadLine (line_number load.text.now load.at) why.0 = search rules in
    let e : c.from_residual.result ≡ Err c.in_err-found.field-0.0 = search rules in
    rw (e, f) (search rules)

pub returns-in_err-stores : goal.returns-in_err-stores
returns-in_err-stores c =
    let a = c.args in
    let load = a.self.now in
    let found = told-fine c.line_at-found.result c.map_err.result _ c.map_err.ensures.cases c.in_ok-found.found c.in_ok-found.was ∙ ap Ok c.in-Some.is in
    let why = told-as c.store_line-stored.result c.map_err-2.result _ c.map_err-2.ensures.cases c.in_err-stores.field-0.0 c.in_err-stores.was in
    let f : c.in_err-stores.field-0.0 ≡ LineRefused (line_number load.text.now load.at) why.0 = search rules in
    let e : c.from_residual-in_err-stores.result ≡ Err c.in_err-stores.field-0.0 = search rules in
    rw (e, f) (line-refused (state_of load.session a.device.now a.work.now) load.text.now load.at _ _ c.line_at-found.ensures _ found _ a.device.now _ _ _ _ c.name_of-name.ensures c.amount_bytes-amount.ensures c.store_line-stored.ensures why.0 why.1.0)

pub returns : goal.returns
returns c =
    let a = c.args in
    let load = a.self.now in
    let found = told-fine c.line_at-found.result c.map_err.result _ c.map_err.ensures.cases c.in_ok-found.found c.in_ok-found.was ∙ ap Ok c.in-Some.is in
    let fine = told-fine c.store_line-stored.result c.map_err-2.result _ c.map_err-2.ensures.cases c.in_ok-stores.stores c.in_ok-stores.was in
    line-started (state_of load.session a.device.now a.work.now) load.text.now load.at _ _ c.line_at-found.ensures _ found _ a.device.now _ _ _ _ c.name_of-name.ensures c.amount_bytes-amount.ensures c.store_line-stored.ensures _ fine
