pub mod HintLines
