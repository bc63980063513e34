-- How connections end.
use Rattle.std.specs.Prelude.{ℕ, Bool, ◌==◌, Option, Some, None, if◌then◌else◌}
use Rattle.http_dialog.specs.declared.ending.LinkEnd.{LinkEnd}
use Rattle.http_dialog.specs.declared.ending.LinkEnd.TheVariants as links
use Rattle.http_dialog.specs.declared.ending.DialogEnd.{DialogEnd}
use Rattle.http_dialog.specs.declared.ending.DialogEnd.TheVariants as ends
use Rattle.kap_http.specs.Requests.{Stop, behind_last, behind_most, at_end, inside, at_fault}

-- the end of the requests as that of a connection
abbrev pub of_link : DialogEnd → LinkEnd
of_link ends.Closed = links.Closed
of_link ends.Limit = links.Limit
of_link ends.Refused = links.Refused

-- how the connection ends behind a request, if it does: so many further ones are taken, this one among them
abbrev pub ending_after : Bool → ℕ → Option DialogEnd
ending_after last left = if last then Some ends.Closed else if left == 1 then Some ends.Limit else None

-- how the connection ends where the requests stop so
abbrev pub end_of : Stop → DialogEnd
end_of behind_last = ends.Closed
end_of behind_most = ends.Limit
end_of at_end = ends.Closed
end_of inside = ends.Refused
end_of (at_fault fault) = ends.Refused
