-- What the tables of a domain stand for. Only private clauses speak of it.
use Rattle.pd_task.specs.declared.tables.DomainTables.{DomainTables}
use Rattle.pd_task.specs.Reading.{DomainParts}

-- what the tables say that a domain declares
abbrev pub domain_of : DomainTables → DomainParts
domain_of d = record { types = d.types.decls; constants = d.objects.decls.items; predicates = d.predicates.decls.items; schemas = d.schemas.items }
