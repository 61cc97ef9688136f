-- What the door reads of a head's fields.
use Rattle.std.specs.Prelude.{Bool, not, ◌&&◌, ◌||◌, List, map, ◌==◌, codes}
use Rattle.std.specs.List.{list_any, list_all}
use Rattle.httparse.specs.Grammar.{RequestHead}
use Rattle.httparse.specs.Spans.{name_and_value}
use Rattle.http1.specs.Text.{eq_ignore_case}
use Rattle.http1.specs.Fields.{Header, is_named, known_fields}

-- the names and values of a head
abbrev pub fields_of : RequestHead → List Header
fields_of head = map name_and_value head.fields

abbrev pub is_type : Header → Bool
is_type field = is_named (codes "content-type") field

abbrev pub is_octets : Header → Bool
is_octets field = eq_ignore_case field.1 (codes "application/octet-stream")

-- there is a Content-Type
abbrev pub names_type : List Header → Bool
names_type fields = list_any is_type fields

-- each Content-Type is that of octets
abbrev pub are_octets : List Header → Bool
are_octets fields = list_all (λ field. not (is_type field) || is_octets field) fields

abbrev pub has_octets : List Header → Bool
has_octets fields = names_type fields && are_octets fields

-- the connection is kept: HTTP/1.1, and no option `close`
abbrev pub keeps : RequestHead → Bool
keeps head = (head.minor == 1) && not (known_fields (fields_of head)).close
