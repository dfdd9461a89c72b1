mod Fairly
