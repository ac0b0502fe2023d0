pub mod HorizonLaws
