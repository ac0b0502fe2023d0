use Rattle.std.proofs.Common.{◌≡◌, drop}
use Rattle.std.specs.List.{list_all}
use Rattle.pd_model.specs.Few.{few_schema}
use Rattle.pd_model.proofs.few.few_schemas.Given as goal

abbrev pub invariant-loop-schema : goal.invariant-loop-schema
invariant-loop-schema l = list_all few_schema (drop l.schema-index l.schemas) ≡ list_all few_schema l.schemas
