-- The bytes of a reply (RFC 9112).
use Rattle.std.specs.Prelude.{ℕ, Bool, true, false, ◌==◌, List, [], ◌∷◌, ◌++◌, length, codes, decimal, if◌then◌else◌}
use Rattle.kap_http.specs.declared.fault.HttpFault.{HttpFault}
use Rattle.kap_http.specs.declared.fault.HttpFault.TheVariants as faults
use Rattle.kap_http.specs.ReplyValues.{ReplyValue}

-- the end of a line
abbrev pub line_end : List ℕ
line_end = 13 ∷ 10 ∷ []

-- the number of a status and its reason
abbrev pub status_text : ℕ → List ℕ
status_text status =
    if status == 200 then codes "200 OK"
    else if status == 204 then codes "204 No Content"
    else if status == 400 then codes "400 Bad Request"
    else if status == 404 then codes "404 Not Found"
    else if status == 405 then codes "405 Method Not Allowed"
    else if status == 409 then codes "409 Conflict"
    else if status == 413 then codes "413 Payload Too Large"
    else if status == 500 then codes "500 Internal Server Error"
    else codes "503 Service Unavailable"

-- the text, and the fields that speak of the body: none at 204, no type where there is none
abbrev pub with_fields : List ℕ → ℕ → ℕ → List ℕ
with_fields text status len =
    if status == 204 then text
    else if status == 503 then text ++ codes "Content-Length: 0\r\n"
    else text ++ codes "Content-Type: application/json\r\nContent-Length: " ++ decimal len ++ line_end

-- the field that says that the connection ends
abbrev pub last_text : Bool → List ℕ
last_text last = if last then codes "Connection: close" ++ line_end else []

-- the bytes of a reply: its first line, its fields, an empty line, its body
unfoldable pub reply_text : ReplyValue → List ℕ
reply_text reply =
    with_fields (codes "HTTP/1.1 " ++ status_text reply.status ++ line_end) reply.status (length reply.body)
    ++ last_text reply.last ++ line_end ++ reply.body

-- the body of a reply that refuses, for this cause
abbrev pub error_body : List ℕ → List ℕ
error_body cause = codes "{\"error\":\"" ++ cause ++ codes "\"}"

-- the reply that says that memory ran out
abbrev pub out_of_memory : Bool → ReplyValue
out_of_memory last = record { status = 503; body = []; last = last }

-- the reply of a status that refuses, for this cause; at 503 there is no body
abbrev pub error_reply : ℕ → List ℕ → ReplyValue
error_reply status cause =
    if status == 503 then out_of_memory false else record { status = status; body = error_body cause; last = false }

-- the reply to bytes that hold no request; it is the last
abbrev pub fault_reply : HttpFault → ReplyValue
fault_reply faults.Bad = record { status = 400; body = error_body (codes "bad request"); last = true }
fault_reply faults.Large = record { status = 413; body = error_body (codes "too large"); last = true }
fault_reply faults.NoMemory = out_of_memory true
