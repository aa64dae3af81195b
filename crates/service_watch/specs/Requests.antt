-- The requests of those who ask how a service does, and what they get.
use Rattle.std.specs.Prelude.{ℕ, List, [], ◌++◌, Bool, cond, codes, decimal, length, bytes_eq}
use Rattle.service_watch.specs.declared.draft_life.DraftLife.{DraftLife}
use Rattle.service_watch.specs.declared.draft_life.DraftLife.TheVariants.{Publication, Session}
use Rattle.service_watch.specs.declared.requests.Page.{Page}
use Rattle.service_watch.specs.declared.requests.Page.TheVariants.{Health, Stopping, Metrics, NotFound, BadMethod, BadRequest}

-- a page for GET alone
abbrev pub if_got : List ℕ → Page → Page
if_got method page = cond (bytes_eq method (codes "GET")) page BadMethod

-- the page for a method and a target
abbrev pub page_for : List ℕ → List ℕ → Page
page_for method target =
    cond (bytes_eq target (codes "/health")) (if_got method Health)
    (cond (bytes_eq target (codes "/metrics")) (if_got method Metrics) NotFound)

-- the page of a service that stops, or does not: of one that stops `/health` is another
abbrev pub page_when : Bool → Page → Page
page_when stopping Health = cond stopping Stopping Health
page_when stopping page = page

-- a status and what it means
abbrev pub status_line : Page → List ℕ
status_line Health = codes "200 OK"
status_line Stopping = codes "503 Service Unavailable"
status_line Metrics = codes "200 OK"
status_line NotFound = codes "404 Not Found"
status_line BadMethod = codes "405 Method Not Allowed"
status_line BadRequest = codes "400 Bad Request"

-- the field that names the method, if another was asked for
abbrev pub allow_field : Page → List ℕ
allow_field BadMethod = codes "Allow: GET\r\n"
allow_field _ = []

-- the type of a page's content
abbrev pub content_type : Page → List ℕ
content_type Health = codes "application/json"
content_type Stopping = codes "application/json"
content_type _ = codes "text/plain; version=0.0.4; charset=utf-8"

-- a whole response
abbrev pub response_text : Page → List ℕ → List ℕ
response_text page content =
    codes "HTTP/1.1 " ++ (status_line page ++ (codes "\r\nContent-Type: " ++ (content_type page ++ (codes "\r\n" ++ (allow_field page
    ++ (codes "Content-Length: " ++ (decimal (length content) ++ (codes "\r\nConnection: close\r\n\r\n" ++ content))))))))

-- with what a draft ends, by the word that names it: the publication alone, or the last session
-- that edited it, too
unfoldable pub draft_life_name : DraftLife → List ℕ
draft_life_name Publication = codes "publication"
draft_life_name Session = codes "session"

-- the content of `/health`
abbrev pub health_text : ℕ → ℕ → DraftLife → List ℕ
health_text version records draft =
    codes "{\"version\":" ++ (decimal version ++ (codes ",\"records\":" ++ (decimal records
    ++ (codes ",\"draft\":\"" ++ (draft_life_name draft ++ codes "\"}\n")))))
