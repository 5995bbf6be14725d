-- The counts of a meter.
use Rattle.us_code_table.specs.Limits.{Count}
use Rattle.us_code_text.specs.declared.meter.Meter.{Meter}

abbrev pub counted : Meter → Count
counted x = record { items = x.items; braces = x.braces; nodes = x.nodes; parens = x.parens; names = x.names; sources = x.sources }
