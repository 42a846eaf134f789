use Rattle.sn_feature.proofs.entities.Task.read.Goals as goal

pub returns-clause-leads : goal.returns-clause-leads
returns-clause-leads c = record {
  numbered = c.rows_have_numbers.ensures c.args.c.now c.args.ws c.requires.row c.rule.ensures.checked.model c.requires.has_row;
  security = c.read-names.ensures.leads.security;
  placement = c.read.ensures.placement;
  depth = c.read.ensures.depth;
  form = c.read.ensures.form;
  operation = c.read-operation.ensures.leads;
  diameter = c.read-2.ensures.diameter;
}
